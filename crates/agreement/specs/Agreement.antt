-- What it is that a contract leaves one answer. A theorem of this crate cites the contract that the kit makes of the `requires` and
-- `ensures` in a function's source, and no copy: `f.ended` is its signature, `f.Reads.Asked` what it asks of a caller, and
-- `f.Reads.Learnt` what it lets a caller learn of the result and of what was lent. A change of a clause changes the theorem.
use Rattle.std.specs.Prelude.{◌≡◌}
use seplogic.Ra.Ura.{Ura}
use base.Logic.{SProp, ent}
use prog.Memory.{Memory}
use prog.Routine.{Routine}
use types.Logic.{Logic}
use contract.Monad.{Fun, conj, fact}
use contract.Lifetimes.{Lfts}
use denote.Triple.Entry.{Args, Res}
use denote.Triple.Clauses.{Ended, Clauses, Lasts, AtExit, at_exit}

-- what a contract asks, of the arguments; and what it tells, of the arguments, the result and the parameters as the call ends
abbrev pub Asks : Ended → Type 1
Asks f = (κs : Lfts f.signature.lifetimes) → Args f.signature κs → Type 0

abbrev pub Tells : Ended → Type 1
Tells f = (κs : Lfts f.signature.lifetimes) → Args f.signature κs → Res f.signature κs → AtExit f κs → Type 0

-- how two ends of one call compare: results r and r', and the last contents ws and ws' of all that was lent for writing
abbrev pub Compares : Ended → Type 1
Compares f =
    (κs : Lfts f.signature.lifetimes) (a : Args f.signature κs) → (r r' : Res f.signature κs) → (ws ws' : Lasts f κs a) → Type 0

-- Any two ends of a call that meet the contract compare so.
abbrev pub AgreeAs : (f : Ended) → Compares f → Asks f → Tells f → Type 0
AgreeAs f alike asked learnt =
    (κs : Lfts f.signature.lifetimes) (a : Args f.signature κs) → asked κs a
    → (r r' : Res f.signature κs) (ws ws' : Lasts f κs a)
    → learnt κs a r (at_exit f κs a ws) → learnt κs a r' (at_exit f κs a ws') → alike κs a r r' ws ws'

-- 01, 'What a green run has to mean': "a contract that leaves one answer and one content of the lent stores per input, refusals
-- included: prove that any two agree".
abbrev pub wholly : (f : Ended) → Compares f
wholly f κs a r r' ws ws' = (r ≡ r') × (ws ≡ ws')

abbrev pub Agree : (f : Ended) → Asks f → Tells f → Type 0
Agree f = AgreeAs f (wholly f)

-- Of a function over a slice of structs the kit has no such reading, only the clauses themselves, in every model of the logic. There the
-- same is said of these: in any model, what both ends' clauses say gives that the ends are the same.
abbrev pub InModels : Ended → Type 2
InModels f = (M : Type 1) (𝓤 : Ura M) (𝓛 : Logic 𝓤) → (Memory → SProp 𝓤) → (Routine → Fun 𝓤) → Clauses 𝓤 f

abbrev pub AgreeInModels : (f : Ended) → InModels f → Type 2
AgreeInModels f clauses =
    (M : Type 1) (𝓤 : Ura M) (𝓛 : Logic 𝓤) (mem : Memory → SProp 𝓤) (run : Routine → Fun 𝓤)
    (κs : Lfts f.signature.lifetimes) (a : Args f.signature κs) (g : (clauses M 𝓤 𝓛 mem run κs a).ghost)
    (r r' : Res f.signature κs) (ws ws' : Lasts f κs a)
    → ent 𝓤 (conj 𝓤 ((clauses M 𝓤 𝓛 mem run κs a).ensures g r (at_exit f κs a ws)) ((clauses M 𝓤 𝓛 mem run κs a).ensures g r' (at_exit f κs a ws')))
    (fact 𝓤 (wholly f κs a r r' ws ws'))
