-- 01, 'Numbers given when nothing is read', and 02's requests: the number of each refusal, under the name that the table gives it.
-- Contracts and definitions of every crate say the name; no bare number stands elsewhere.
use Rattle.std.specs.Prelude.{ℕ}

-- the answer's number where nothing was refused
abbrev pub accepted : ℕ
accepted = 0

abbrev pub eof_object : ℕ
eof_object = 1

abbrev pub data_too_short : ℕ
data_too_short = 2

abbrev pub unknown_type : ℕ
unknown_type = 3

abbrev pub null_object : ℕ
null_object = 4

abbrev pub invalid_ref : ℕ
invalid_ref = 5

abbrev pub bad_size : ℕ
bad_size = 6

abbrev pub bad_type : ℕ
bad_type = 7

abbrev pub invalid_bytecode : ℕ
invalid_bytecode = 8

abbrev pub invalid_utf8 : ℕ
invalid_utf8 = 9

abbrev pub too_deep : ℕ
too_deep = 10

abbrev pub no_node : ℕ
no_node = 11

abbrev pub no_entry : ℕ
no_entry = 12

abbrev pub no_slot : ℕ
no_slot = 13

abbrev pub input_too_long : ℕ
input_too_long = 14

abbrev pub not_carried : ℕ
not_carried = 15

abbrev pub bad_table : ℕ
bad_table = 16

abbrev pub no_room : ℕ
no_room = 17

abbrev pub number_range : ℕ
number_range = 18

-- 02, K1: "a missing marker is 19"
abbrev pub no_marker : ℕ
no_marker = 19

-- 02, K4: "n beyond the count, or no k-th start (k counts from 1), 20 at 0"
abbrev pub no_such_start : ℕ
no_such_start = 20

-- 02, K6: "a call after an accepted final one is 21 at 0"
abbrev pub already_ended : ℕ
already_ended = 21

-- 02, K8: "repeated tag 22"
abbrev pub repeated_tag : ℕ
repeated_tag = 22

-- 02, K8: "a tag in neither, no such edition, or saving a file whose edition is missing or already saved, 23"; K13: "other fields or edition 23"
abbrev pub no_such_field : ℕ
no_such_field = 23

-- 02, K12: "not whole (a refused table is not) or lines that do not meet 24 at 0"
abbrev pub not_joined : ℕ
not_joined = 24

-- 02, K13: "trailing bytes 25 at their start"
abbrev pub trailing_bytes : ℕ
trailing_bytes = 25

-- 02, K13: "a value above 65,535 bytes 26 at its start"
abbrev pub value_too_long : ℕ
value_too_long = 26

-- the last of the table, with those that 02 adds (K14: "for N from 1 to 26")
abbrev pub last_number : ℕ
last_number = value_too_long
