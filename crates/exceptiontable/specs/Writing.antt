-- What entries are written as: 02, K1, "Write the same entries back in shortest form."
use Rattle.std.specs.Prelude.{ℕ, ◌+◌, ◌*◌, ◌/◌, ◌^◌, min, Bool, cond, ◌&&◌, List, [], ◌∷◌, ◌++◌, ltb, length, Result, Ok, Err}
use Rattle.refusals.specs.Faults.{refused}
use Rattle.refusals.specs.declared.Refusal.TheVariants.{NoRoom, NumberRange}
use Rattle.refusals.specs.declared.Fault.{Fault}
use Rattle.refusals.specs.Limits.{nothing}
use Rattle.clearing.specs.Lent.{zeros, padded}
use Rattle.varint.specs.Writing.{big_endian, big_endian_with_start}
use Rattle.exceptiontable.specs.Entry.{Entry, entries_in}

-- "depth x 2 plus the last-instruction bit"
abbrev pub code_of : Entry → ℕ
code_of e = e.depth * 2 + e.last

-- "four big-endian varints an entry .. the first with the start marker"
unfoldable pub bytes_of : Entry → List ℕ
unfolding big_endian big_endian_with_start
bytes_of e = big_endian_with_start e.start ++ (big_endian e.size ++ (big_endian e.target ++ big_endian (code_of e)))

unfoldable pub table_of : List Entry → List ℕ
unfolding bytes_of
table_of [] = []
table_of (e ∷ es) = bytes_of e ++ table_of es

-- "a depth of 2^31 or more when writing 18", and so is a bit above 1
abbrev pub writable : Entry → Bool
writable e = ltb e.depth (2 ^ 31) && ltb e.last 2

-- Entry by entry, after so many bytes: 18 before the entry's bytes, then "no room 17", at the output's length.
unfoldable pub encoded_from : ℕ → ℕ → List Entry → Result ℕ Fault
unfolding bytes_of
encoded_from room used [] = Ok used
encoded_from room used (e ∷ es) =
    cond (writable e)
    (cond (ltb room (used + length (bytes_of e))) (refused NoRoom room) (encoded_from room (used + length (bytes_of e)) es))
    (refused NumberRange 0)

-- what the output holds: "On acceptance, all past what was written is zero", and a refusal leaves zeros
abbrev pub held : ℕ → List ℕ → Result ℕ Fault → Result ℕ Fault × List ℕ
held room bytes (Ok count) = (Ok count, padded room bytes)
held room bytes (Err why) = (Err why, zeros room)

-- All whole groups of five; the output's length "counts as at most 4,294,967,295".
unfoldable pub encoded_of : List ℕ → ℕ → Result ℕ Fault × List ℕ
unfolding entries_in table_of encoded_from padded
encoded_of store room =
    let es = entries_in store 0 (length store / 5) in
    held room (table_of es) (encoded_from (min room nothing) 0 es)
