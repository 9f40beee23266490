-- The struct that the exports of line tables by piece return, which is that of `sill_locate`, and what a call leaves with it.
use Rattle.std.specs.Prelude.{◌≡◌, false, List, ℕ, Ok, Err}
use Rattle.refusals.specs.Numbers.{accepted}
use Rattle.refusals.specs.Faults.{number_of}
use Rattle.varint.specs.Answers.{truth}
use Rattle.piecestate.specs.Answers.{Answer, Left}
use Rattle.sillgarland.specs.declared.locations.SillLocated.{SillLocated}

abbrev pub pieced_struct : Answer → SillLocated
pieced_struct (Ok x) = record { refusal = accepted; place = 0; from_entries = x.from_entries; whole = truth x.whole }
pieced_struct (Err why) = record { refusal = number_of why.refusal; place = why.place; from_entries = 0; whole = truth false }

-- a call's numbers and both stores are these
pub record LeavesStruct (x : Left) (r : SillLocated) (state records : List ℕ) : Type 0 where
  pub answers : r ≡ pieced_struct x.answer
  pub states : state ≡ x.state
  pub fills : records ≡ x.records
