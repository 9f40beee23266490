-- No export and no promise rests on this page.
-- How many bytes a string's letter counts, as the code asks it. 01, 'Writing it back': "`z Z` at most 255".
use Rattle.std.specs.Prelude.{ℕ, Bool, false, cond, [], ◌∷◌, leb}
use Rattle.grammar.specs.LetterNames.{short_letter, short_interned_letter}
use Rattle.grammar.specs.Letters.{among}

abbrev pub too_long : (letter size : ℕ) → Bool
too_long letter size = cond (leb size 255) false (among letter (short_letter ∷ short_interned_letter ∷ []))
