-- The letter of each kind of value, under a name: definitions and contracts of every crate say the name, and no bare letter stands elsewhere.
-- 01, 'Reading a value': "Letters: ..". marshal.c: the TYPE_ constants. `src` names the same letters for the code.
use Rattle.std.specs.Prelude.{ℕ}

-- one value each: N F T S .
abbrev pub none_letter : ℕ
none_letter = 0x4E

abbrev pub false_letter : ℕ
false_letter = 0x46

abbrev pub true_letter : ℕ
true_letter = 0x54

abbrev pub stop_letter : ℕ
stop_letter = 0x53

abbrev pub ellipsis_letter : ℕ
ellipsis_letter = 0x2E

-- signed 32 bits, signed 64 bits, any number of digits; float bits, one and two: i I l g y
abbrev pub int_letter : ℕ
int_letter = 0x69

abbrev pub int64_letter : ℕ
int64_letter = 0x49

abbrev pub long_letter : ℕ
long_letter = 0x6C

abbrev pub float_letter : ℕ
float_letter = 0x67

abbrev pub complex_letter : ℕ
complex_letter = 0x79

-- s
abbrev pub bytes_letter : ℕ
bytes_letter = 0x73

-- strings: u t a A, and with a one-byte length z Z
abbrev pub unicode_letter : ℕ
unicode_letter = 0x75

abbrev pub interned_letter : ℕ
interned_letter = 0x74

abbrev pub ascii_letter : ℕ
ascii_letter = 0x61

abbrev pub ascii_interned_letter : ℕ
ascii_interned_letter = 0x41

abbrev pub short_letter : ℕ
short_letter = 0x7A

abbrev pub short_interned_letter : ℕ
short_interned_letter = 0x5A

-- tuple, the same with a one-byte length, list, set, frozenset: ( ) [ < >
abbrev pub tuple_letter : ℕ
tuple_letter = 0x28

abbrev pub small_tuple_letter : ℕ
small_tuple_letter = 0x29

abbrev pub list_letter : ℕ
list_letter = 0x5B

abbrev pub set_letter : ℕ
set_letter = 0x3C

abbrev pub frozenset_letter : ℕ
frozenset_letter = 0x3E

-- three values; pairs; code: : { c
abbrev pub slice_letter : ℕ
slice_letter = 0x3A

abbrev pub dict_letter : ℕ
dict_letter = 0x7B

abbrev pub code_letter : ℕ
code_letter = 0x63

-- r
abbrev pub reference_letter : ℕ
reference_letter = 0x72

-- the null in a key's place: 0
abbrev pub null_letter : ℕ
null_letter = 0x30

-- floats in text, which are not carried: f x
abbrev pub text_float_letter : ℕ
text_float_letter = 0x66

abbrev pub text_complex_letter : ℕ
text_complex_letter = 0x78
