-- What carries the theorems of agreement: two values that equal a third agree. Assumes nothing.
use mathlib.Core.Path.{◌≡◌, sym, ◌∙◌, ap}
use seplogic.Ra.Ura.{Ura}
use base.Logic.{SProp, ent, via}
use prog.Memory.{Memory}
use prog.Routine.{Routine}
use types.Logic.{Logic}
use contract.Monad.{Fun, conj, conj_l, conj_r, fact, fact_i, fact_use}
use contract.Lifetimes.{Lfts}
use denote.Triple.Entry.{Args, Res}
use denote.Triple.Clauses.{Ended, AtExit, at_exit}
use Rattle.agreement.specs.Agreement.{Tells, wholly, Agree, InModels, AgreeInModels}

pub one : {A : Type 0} {x y z : A} → x ≡ z → y ≡ z → x ≡ y
one p q = p ∙ sym q

-- the same of an answer that is told in other words, by words that can be taken back
pub retold : {A B : Type 0} (told : A → B) (back : B → A) → ((x : A) → back (told x) ≡ x) → {x y : A} {z : B} → told x ≡ z → told y ≡ z → x ≡ y
retold told back undone {x} {y} p q = sym (undone x) ∙ (ap back (one p q) ∙ undone y)

-- Where the clauses say a plain fact in every model, and that fact leaves one answer, so do the clauses.
pub in_models : (f : Ended) (clauses : InModels f) (says : Tells f)
    → ((M : Type 1) (𝓤 : Ura M) (𝓛 : Logic 𝓤) (mem : Memory → SProp 𝓤) (run : Routine → Fun 𝓤)
    (κs : Lfts f.signature.lifetimes) (a : Args f.signature κs) (g : (clauses M 𝓤 𝓛 mem run κs a).ghost) (r : Res f.signature κs) (e : AtExit f κs)
    → ent 𝓤 ((clauses M 𝓤 𝓛 mem run κs a).ensures g r e) (fact 𝓤 (says κs a r e)))
    → Agree f (λ κs a. Unit) says → AgreeInModels f clauses
in_models f clauses says told agree M 𝓤 𝓛 mem run κs a g r r' ws ws' =
    let P : SProp 𝓤 = (clauses M 𝓤 𝓛 mem run κs a).ensures g r (at_exit f κs a ws) in
    let P' : SProp 𝓤 = (clauses M 𝓤 𝓛 mem run κs a).ensures g r' (at_exit f κs a ws') in
    fact_use 𝓤 (says κs a r (at_exit f κs a ws)) (via 𝓤 P (conj_l 𝓤 P P') (told M 𝓤 𝓛 mem run κs a g r (at_exit f κs a ws))) (λ p.
    fact_use 𝓤 (says κs a r' (at_exit f κs a ws')) (via 𝓤 P' (conj_r 𝓤 P P') (told M 𝓤 𝓛 mem run κs a g r' (at_exit f κs a ws'))) (λ p'.
    fact_i 𝓤 (wholly f κs a r r' ws ws') (conj 𝓤 P P') (agree κs a tt r r' ws ws' p p')))
