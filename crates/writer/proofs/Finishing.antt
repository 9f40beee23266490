-- The whole writing: into an output of which as many bytes count as a place can tell, and which is cleared behind it. Assumes nothing.
use mathlib.Core.Path.{◌≡◌, refl, sym, ap, ◌∙◌}
use Prim.Native.Nat.{ℕ, ◌-◌, ◌≤◌, ◌<◌, min}
use native.Mathlib.Omega.{arith}
use mathlib.Core.Bool.{cond}
use mathlib.Core.List.{List, [], ◌++◌, append-nil}
use lib.ListN.{length, take, drop, length-append, drop_of_length-le}
use lib.Seq.{length-take-le, take-append-le}
use borrow.Author.Tests.{lt-ltb, le-ltb}
use borrow.Rule.Slice.PartMut.{mid_of, post_of, put_mid, mid_len, Post-is}
use Rattle.refusals.specs.Numbers.{input_too_long}
use Rattle.refusals.specs.Faults.{fault}
use Rattle.refusals.specs.declared.Refusal.TheVariants.{InputTooLong}
use Rattle.refusals.specs.Limits.{most_bytes, most_nesting}
use Rattle.clearing.specs.Lent.{zeros, padded}
use Rattle.grammar.specs.Reading.{Answer, gives, stops}
use Rattle.grammar.specs.Record.{Tables}
use Rattle.writing.specs.Writing.{Writing, into}
use Rattle.writing.specs.Steps.{writing}
use Rattle.writing.specs.Answer.{most_output, written, output_held}
use Rattle.grammar.specs.Numbered.{numbered}
use Rattle.output.specs.Puts.{Wrote, Agrees, Puts}
use Rattle.writer.specs.Entry.{length_in, Serialized}
use Rattle.std.specs.Prelude.{Ok, Err}
use Rattle.refusals.specs.declared.Fault.{Fault}

-- the output, where an answer is known
answered : {answer x : Answer (List ℕ)} {n : ℕ} {r : Wrote} {o : List ℕ} → answer ≡ x → numbered r ≡ length_in x → o ≡ output_held n x → Serialized answer n r o
answered {n = n} e f g = record { answers = f ∙ ap length_in (sym e); holds = g ∙ ap (output_held n) (sym e) }

-- the bytes written lie in the output that was lent whole
pub fits-behind : (room : ℕ) (o : List ℕ) {w : Writing} {r : Wrote} {part : List ℕ} {a : ℕ} → room ≤ length o → Puts w 0 (take room o) r part → r ≡ Ok a
    → a ≤ length (part ++ drop room o)
fits-behind room o {w} {r} {part} {a} inside put is =
    let agrees : Agrees (Ok a) 0 (take room o) part (into (length (take room o)) [] w) = rw is at put.exact in
    omega (arith, agrees.2, put.same, length-append part (drop room o))

-- the part from a place to the end is cleared
pub behind-cleared : (a n : ℕ) (xs : List ℕ) {ys : List ℕ} → a ≤ length xs → length xs ≡ n → ys ≡ zeros (length (mid_of a (length xs - a) xs))
    → put_mid a (length xs - a) xs ys ≡ take a xs ++ zeros (n - a)
behind-cleared a n xs {ys} h long is =
    ap (λ l. take a xs ++ (l ++ post_of a (length xs - a) xs)) (is ∙ ap zeros (mid_len a (length xs) xs (omega arith) ∙ ap (λ k. k - a) long))
    ∙ ap (λ l. take a xs ++ (zeros (n - a) ++ l)) (Post-is a (length xs) xs h ∙ drop_of_length-le xs {i = length xs} (omega arith))
    ∙ ap (λ l. take a xs ++ l) (append-nil (zeros (n - a)))

module _ (t : Tables) (root nesting n : ℕ) where
  pub finish_long : {o : List ℕ} → most_bytes < length t.input → o ≡ zeros n → {stop : Fault} → stop ≡ fault InputTooLong 0 → Serialized (written t root nesting n) n (Err stop) o
  unfolding written
  finish_long h e is = answered (ap (λ b. cond b (stops input_too_long 0) (into (min n most_output) [] (writing (min nesting most_nesting) t root))) (lt-ltb most_bytes (length t.input) h)) (ap (λ f. numbered (Err f)) is) e

  module _ (fits : length t.input ≤ most_bytes) {allowance room : ℕ} (o₁ : List ℕ) {part : List ℕ} {r : Wrote} (level : allowance ≡ min nesting most_nesting)
      (counts : room ≡ min n most_output) (inside : room ≤ length o₁) (put : Puts (writing allowance t root) 0 (take room o₁) r part) where
    lent_length : length (take room o₁) ≡ room
    lent_length = length-take-le room o₁ inside

    written_is : written t root nesting n ≡ into (length (take room o₁)) [] (writing allowance t root)
    unfolding written
    written_is =
        ap (λ b. cond b (stops input_too_long 0) (into (min n most_output) [] (writing (min nesting most_nesting) t root))) (le-ltb most_bytes (length t.input) fits)
        ∙ ap (λ k. into k [] (writing (min nesting most_nesting) t root)) (sym (lent_length ∙ counts))
        ∙ ap (λ a. into (length (take room o₁)) [] (writing a t root)) (sym level)

    pub finish_refused : {stop : Fault} {o : List ℕ} → r ≡ Err stop → o ≡ zeros n
        → Serialized (written t root nesting n) n (Err stop) o
    finish_refused {stop} is e =
        let agrees : into (length (take room o₁)) [] (writing allowance t root) ≡ numbered (Err stop) = rw is at put.exact in
        answered (written_is ∙ agrees) refl e

    -- what is written, and zeros behind it
    pub finish_done : {a : ℕ} {o : List ℕ} → r ≡ Ok a → o ≡ take a (part ++ drop room o₁) ++ zeros (n - a)
        → Serialized (written t root nesting n) n (Ok a) o
    unfolding padded
    finish_done {a} is holds =
        let agrees : Agrees (Ok a) 0 (take room o₁) part (into (length (take room o₁)) [] (writing allowance t root)) = rw is at put.exact in
        let short : a ≤ length part = omega (arith, agrees.2, put.same) in
        let long : length (take a part) ≡ a = length-take-le a part short in
        answered (written_is ∙ agrees.0) (ap gives (sym long))
        (holds ∙ ap (λ l. l ++ zeros (n - a)) (take-append-le a part (drop room o₁) short) ∙ ap (λ k. take a part ++ zeros (n - k)) (sym long))
