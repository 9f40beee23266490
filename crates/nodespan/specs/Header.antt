-- Where a node's header stands, and where its own contents end, from its record and for any record.
-- 02, K7: "The difference viewer needs the bytes of any node"; 01, 'What is lent and what is kept', on a node's place and size.
use Rattle.std.specs.Prelude.{ℕ, ◌+◌, ◌-◌, Bool, ◌&&◌, List, length, leb}
use Rattle.grammar.specs.Letters as letter
use Rattle.grammar.specs.Letters.{Sort, Class, refers, keeps, contains, codes, refuses, class_of}
use Rattle.grammar.specs.State.{Node}

-- From the header to the place: strings and bytes have their contents at their place, behind a length of four bytes or of one; of all
-- other letters the place is the byte after the header.
abbrev pub lead_of : Sort → ℕ
lead_of letter.bytes = 5
lead_of letter.text = 5
lead_of letter.short = 2

abbrev pub lead : Class → ℕ
lead refers = 1
lead (keeps form) = 1
lead (contains sort) = lead_of sort
lead codes = 1
lead (refuses number) = 1

unfoldable pub header_of : Node → ℕ
header_of n = n.place - lead (class_of n.letter)

-- From the place to the end of what the node itself holds: its size, and behind a code's the first line number.
abbrev pub own_size : Class → ℕ → ℕ
own_size refers size = size
own_size (keeps form) size = size
own_size (contains _) size = size
own_size codes size = size + 4
own_size (refuses number) size = size

-- The header does not stand before the input, nor the end before the contents' end or beyond the input.
unfoldable pub spanned : List ℕ → Node → Bool
spanned s n =
    leb (lead (class_of n.letter)) n.place && leb (n.place + own_size (class_of n.letter) n.size) n.end && leb n.end (length s)
