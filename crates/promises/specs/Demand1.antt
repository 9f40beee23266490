-- Demand 1 of the request, over the calls of every exported function: "For any bytes, stores and limits, each call ends in its answer or a
-- numbered refusal with a place. A refusal fills every store lent for writing with zero."
use Rattle.std.specs.Prelude.{◌≡◌, ℕ, ◌-◌, ◌*◌, ◌<◌, ◌≤◌, Bool, List, ◌++◌, length, take, replicate, pos, Ok, Err}
use Rattle.std.proofs.Math.Option.{Option, none, some}
use seplogic.Ra.Ura.{Ura}
use base.Logic.{SProp, ent, emp}
use prog.Memory.{Memory}
use prog.Routine.{Routine}
use types.Logic.{Logic}
use contract.Monad.{Fun, fact}
use contract.Lifetimes.{Lfts}
use denote.Triple.Entry.{Args, Res}
use denote.Triple.Clauses.{Ended, Lasts, at_exit}
use Rattle.refusals.specs.Numbers.{accepted, last_number}
use Rattle.clearing.specs.Lent.{zeros}
use Rattle.grammar.specs.Reading.{gives, stops}
use Rattle.grammar.specs.State.{node_width, entry_width}
use Rattle.keep.specs.Kept.{need}
use Rattle.linetable.specs.Answer.{tells, blank}
use Rattle.salvage.specs.Salvage.{Account}
use Rattle.salvage.specs.Repair.{listed}
use Rattle.sources.specs.declared.Counts.{Counts}
use Rattle.join.specs.Whole as table
use Rattle.join.specs.Join as joined
use Rattle.varintread.specs.Reading.{found, nothing}
use Rattle.sillgarland.specs.Exceptions.{decoded_struct}
use Rattle.sillgarland.specs.Joins.{joined_struct, line_struct}
use Rattle.sillgarland.specs.Nightly.{totalled_struct}
use Rattle.sillgarland.specs.Leaves.{leaf_struct}
use Rattle.sillgarland.specs.Locals.{split_struct}
use Rattle.sillgarland.specs.Locations.{located_struct}
use Rattle.sillgarland.specs.Reclaiming.{keep_struct}
use Rattle.sillgarland.specs.Salvage.{unsalvaged, salvaged_struct}
use Rattle.sillgarland.specs.Goldenfiles.{moved_struct}
use Rattle.sillgarland.specs.Sources.{sourced_struct}
use Rattle.sillgarland.specs.Spans.{span_struct}
use Rattle.sillgarland.specs.Starts.{indexed_struct, start_struct}
use Rattle.sillgarland.specs.Values.{read_struct, wrote_struct}
use Rattle.sillgarland.specs.Varints.{written_struct, found_struct}
use Rattle.sillgarland.specs.declared.goldenfiles.SillMoved.{SillMoved}
use Rattle.sillgarland.specs.declared.joins.SillJoined.{SillJoined}
use Rattle.sillgarland.specs.declared.joins.SillLine.{SillLine}
use Rattle.sillgarland.specs.declared.locations.SillLocated.{SillLocated}
use Rattle.sillgarland.specs.declared.reclaiming.SillKept.{SillKept}
use Rattle.sillgarland.specs.declared.rowstarts.SillStart.{SillStart}
use Rattle.sillgarland.specs.declared.settingfiles.SillSetting.{SillSetting}
use Rattle.sillgarland.specs.declared.settingfiles.SillRewritten.{SillRewritten}
use Rattle.sillgarland.specs.declared.settingfiles.SillSaved.{SillSaved}
use Rattle.sillgarland.specs.declared.settingfiles.SillEdition.{SillEdition}
use Rattle.sillgarland.specs.declared.varints.SillWritten.{SillWritten}
use Rattle.sillgarland.specs.declared.varints.SillFound.{SillFound}
use Rattle.sillgarland.proofs as sillgarland
use Rattle.sillgarland.specs.contracts as sillgarland_contracts
use Rattle.agreement.specs.Agreement.{Asks, Tells, InModels}
use Rattle.promises.specs.Calls.{Call}

-- the numbers of 01's table, with those that 02 adds
abbrev pub InTable : ℕ → Type 0
InTable number = (accepted < number) × (number ≤ last_number)

-- The end of a call, by the definition that gives 01's numbers and values for each case: an answer; or a number of the table with a place,
-- and then the stores are zero.
pub data Ends {A S : Type 0} (r : S) (answer : A → S) (refusal : ℕ → ℕ → S) (Zeroed : Type 0) : Type 0 where
  answers : (a : A) → r ≡ answer a → Ends r answer refusal Zeroed
  refuses : (number place : ℕ) → InTable number → r ≡ refusal number place → Zeroed → Ends r answer refusal Zeroed

-- a store of numbers that is all zero, as long as it was lent
abbrev pub Zero : (lent left : List ℕ) → Type 0
Zero lent left = left ≡ zeros (length lent)

-- 02, K11: "Amending 01, a refused move leaves the value as it was, and a refused append keeps the kept part and zeroes the rest." So of a
-- store that is as it was lent, and of one whose first numbers are and whose others are zero.
abbrev pub AsItWas : (lent left : List ℕ) → Type 0
AsItWas lent left = left ≡ lent

abbrev pub KeptThenZero : (kept : ℕ) → (lent left : List ℕ) → Type 0
KeptThenZero kept lent left = left ≡ take kept lent ++ zeros (length lent - kept)

-- An exported function asks nothing of its caller; its run meets its contract, so that every call returns; and every call ends so.
pub record EachCall (f : Ended) (asked : Asks f) (learnt : Tells f) (statement : Type 1 → Type 2) (end : Call f asked learnt → Type 0) : Type 2 where
  pub asks_nothing : (κs : Lfts f.signature.lifetimes) (a : Args f.signature κs) → asked κs a
  pub returns : (M : Type 1) → statement M
  pub ends : (c : Call f asked learnt) → end c

-- The same of a function over a slice of structs, of which the kit has the clauses alone (specs/Agreement): in every model.
pub record EachCallInModels (f : Ended) (clauses : InModels f) (statement : Type 1 → Type 2)
    (end : (κs : Lfts f.signature.lifetimes) (a : Args f.signature κs) → Res f.signature κs → Lasts f κs a → Type 0) : Type 2 where
  pub asks_nothing : (M : Type 1) (𝓤 : Ura M) (𝓛 : Logic 𝓤) (mem : Memory → SProp 𝓤) (run : Routine → Fun 𝓤)
      (κs : Lfts f.signature.lifetimes) (a : Args f.signature κs) (g : (clauses M 𝓤 𝓛 mem run κs a).ghost)
      → ent 𝓤 (emp 𝓤) ((clauses M 𝓤 𝓛 mem run κs a).requires g)
  pub returns : (M : Type 1) → statement M
  pub ends : (M : Type 1) (𝓤 : Ura M) (𝓛 : Logic 𝓤) (mem : Memory → SProp 𝓤) (run : Routine → Fun 𝓤)
      (κs : Lfts f.signature.lifetimes) (a : Args f.signature κs) (g : (clauses M 𝓤 𝓛 mem run κs a).ghost) (r : Res f.signature κs) (ws : Lasts f κs a)
      → ent 𝓤 ((clauses M 𝓤 𝓛 mem run κs a).ensures g r (at_exit f κs a ws)) (fact 𝓤 (end κs a r ws))

-- the ends of the exports whose answers are alike: of line tables, and of varints, exception tables and totals that are written
abbrev pub LocateEnds : SillLocated → Type 0 → Type 0
LocateEnds r = Ends r (λ (l : ℕ × Bool). located_struct (tells l.0 l.1)) (λ number place. located_struct (Err (number, place)))

abbrev pub VarintEnds : SillWritten → Type 0 → Type 0
VarintEnds r = Ends r (λ count. written_struct (Ok count)) (λ number place. record { refusal = number; place = place; written = 0 })

-- the end of a reader of varints at a position, where nothing found is an answer
abbrev pub read_as : ℕ → Option (ℕ × ℕ) → SillFound
read_as at none = found_struct at nothing
read_as at (some number) = found_struct at (found number.0 number.1)

abbrev pub FoundEnds : ℕ → SillFound → Type 0
FoundEnds at r =
    Ends r (read_as at) (λ number place. record { refusal = number; found = 0; value = 0; pad = 0; place = place; next = at }) Unit

-- the ends of a join, and of the running line of one table, for which no store is lent
abbrev pub JoinEnds : SillJoined → Type 0 → Type 0
JoinEnds r = Ends r (λ (d : ℕ × ℕ × ℕ). joined_struct (Ok (joined.joins d.0 d.1 d.2))) (λ number place. record { refusal = number; place = place; written = 0; count = 0; line = pos 0 })

abbrev pub LineEnds : SillLine → Type 0
LineEnds r = Ends r (λ (d : Bool × ℕ). line_struct (Ok (table.told d.0 d.1))) (λ number place. record { refusal = number; place = place; whole = 0; line = pos 0 }) Unit

-- the end of a question about row starts, which is lent nothing for writing
abbrev pub StartEnds : SillStart → Type 0
StartEnds r = Ends r (λ value. start_struct (Ok value)) (λ number place. record { refusal = number; place = place; value = 0 }) Unit

-- the ends over settings files: a part of a file, a file that is written, an archive that is written, a part of an archive
abbrev pub SettingEnds : SillSetting → Type 0
SettingEnds r =
    Ends r (λ (d : ℕ × ℕ × ℕ). record { refusal = accepted; place = 0; file = d.0; start = d.1; size = d.2 }) (λ number place. record { refusal = number; place = place; file = 0; start = 0; size = 0 }) Unit

abbrev pub RewriteEnds : SillRewritten → Type 0 → Type 0
RewriteEnds r = Ends r (λ (written : ℕ). record { refusal = accepted; place = 0; written = written }) (λ number place. record { refusal = number; place = place; written = 0 })

abbrev pub SaveEnds : SillSaved → Type 0 → Type 0
SaveEnds r = Ends r (λ (written : ℕ). record { refusal = accepted; place = 0; written = written }) (λ number place. record { refusal = number; place = place; written = 0 })

abbrev pub EditionEnds : SillEdition → Type 0
EditionEnds r =
    Ends r (λ (d : ℕ × ℕ). record { refusal = accepted; place = 0; start = d.0; size = d.1 }) (λ number place. record { refusal = number; place = place; start = 0; size = 0 }) Unit

-- the end of a move of a golden file
abbrev pub MoveEnds : SillMoved → Type 0 → Type 0
MoveEnds r = Ends r (λ (written : ℕ). moved_struct (gives written)) (λ number place. moved_struct (stops number place))

-- the end of a move of a node to the front of the stores
abbrev pub KeepEnds : SillKept → Type 0 → Type 0
KeepEnds r =
    Ends r
    (λ (d : ℕ × ℕ × ℕ × ℕ). keep_struct (Ok (record { nodes = d.0; entries = d.1; freenodes = d.2; freeentries = d.3 })))
    (λ number place. record { refusal = number; place = place; nodes = 0; entries = 0; free_nodes = 0; free_entries = 0 })

-- Each export. Arguments and last contents are counted from the left: the third parameter is `.1 .1 .0`.
pub record Demand1 : Type 2 where
  pub sill_read_here :
      EachCall sillgarland_contracts.values.sill_read.ended sillgarland.values.sill_read.Reads.Asked sillgarland.values.sill_read.Reads.Learnt sillgarland.values.sill_read.Statement.statement
      (λ c.
      Ends c.result (λ counts. read_struct (gives counts)) (λ number place. read_struct (stops number place))
      (Zero c.args.1.0.now c.last.1.0 × Zero c.args.1.1.0.now c.last.1.1.0 × Zero c.args.1.1.1.0.now c.last.1.1.1.0))
  pub sill_write_here :
      EachCall sillgarland_contracts.values.sill_write.ended sillgarland.values.sill_write.Reads.Asked sillgarland.values.sill_write.Reads.Learnt sillgarland.values.sill_write.Statement.statement
      (λ c.
      Ends c.result (λ count. wrote_struct (gives count)) (λ number place. wrote_struct (stops number place))
      (Zero c.args.1.1.1.1.1.1.1.0.now c.last.1.1.1.1.1.1.1.0))
  -- K11's two exemptions: a refused move clears the stack alone, and a refused append clears what is behind the kept part
  pub sill_keep :
      EachCall sillgarland_contracts.reclaiming.sill_keep.ended sillgarland.reclaiming.sill_keep.Reads.Asked sillgarland.reclaiming.sill_keep.Reads.Learnt sillgarland.reclaiming.sill_keep.Statement.statement
      (λ c.
      KeepEnds c.result
      (AsItWas c.args.0.now c.last.0 × AsItWas c.args.1.0.now c.last.1.0 × AsItWas c.args.1.1.0.now c.last.1.1.0
      × Zero c.args.1.1.1.1.1.1.0.now c.last.1.1.1.1.1.1.0))
  -- it refuses nothing: its answer is the need
  pub sill_keep_need :
      EachCall sillgarland_contracts.reclaiming.sill_keep_need.ended sillgarland.reclaiming.sill_keep_need.Reads.Asked sillgarland.reclaiming.sill_keep_need.Reads.Learnt sillgarland.reclaiming.sill_keep_need.Statement.statement
      (λ c. c.result ≡ need c.args.0 c.args.1.0)
  pub sill_read_more :
      EachCall sillgarland_contracts.reclaiming.sill_read_more.ended sillgarland.reclaiming.sill_read_more.Reads.Asked sillgarland.reclaiming.sill_read_more.Reads.Learnt sillgarland.reclaiming.sill_read_more.Statement.statement
      (λ c.
      Ends c.result (λ counts. read_struct (gives counts)) (λ number place. read_struct (stops number place))
      (KeptThenZero (c.args.1.1.1.1.1.0 * node_width) c.args.1.0.now c.last.1.0
      × KeptThenZero (c.args.1.1.1.1.1.1.0 * entry_width) c.args.1.1.0.now c.last.1.1.0 × Zero c.args.1.1.1.0.now c.last.1.1.1.0))
  pub sill_leaf :
      EachCall sillgarland_contracts.leaves.sill_leaf.ended sillgarland.leaves.sill_leaf.Reads.Asked sillgarland.leaves.sill_leaf.Reads.Learnt sillgarland.leaves.sill_leaf.Statement.statement
      (λ c. Ends c.result (λ told. leaf_struct (gives told)) (λ number place. leaf_struct (stops number place)) Unit)
  pub sill_span :
      EachCall sillgarland_contracts.spans.sill_span.ended sillgarland.spans.sill_span.Reads.Asked sillgarland.spans.sill_span.Reads.Learnt sillgarland.spans.sill_span.Statement.statement
      (λ c. Ends c.result (λ found. span_struct (gives found)) (λ number place. span_struct (stops number place)) Unit)
  pub sill_locate :
      EachCall sillgarland_contracts.locations.sill_locate.ended sillgarland.locations.sill_locate.Reads.Asked sillgarland.locations.sill_locate.Reads.Learnt sillgarland.locations.sill_locate.Statement.statement
      (λ c. LocateEnds c.result (Zero c.args.1.1.1.0.now c.last.1.1.1.0))
  -- K6's state is the one store lent for writing that a refusal does not clear: "After a refusal, later calls repeat it, and the records stay zero."
  pub sill_locate_begin :
      EachCall sillgarland_contracts.piecewise.sill_locate_begin.ended sillgarland.piecewise.sill_locate_begin.Reads.Asked sillgarland.piecewise.sill_locate_begin.Reads.Learnt sillgarland.piecewise.sill_locate_begin.Statement.statement
      (λ c. LocateEnds c.result (Zero c.args.1.1.1.0.now c.last.1.1.1.0))
  pub sill_locate_piece :
      EachCall sillgarland_contracts.piecewise.sill_locate_piece.ended sillgarland.piecewise.sill_locate_piece.Reads.Asked sillgarland.piecewise.sill_locate_piece.Reads.Learnt sillgarland.piecewise.sill_locate_piece.Statement.statement
      (λ c. LocateEnds c.result (Zero c.args.1.1.0.now c.last.1.1.0))
  pub sill_locate_end :
      EachCall sillgarland_contracts.piecewise.sill_locate_end.ended sillgarland.piecewise.sill_locate_end.Reads.Asked sillgarland.piecewise.sill_locate_end.Reads.Learnt sillgarland.piecewise.sill_locate_end.Statement.statement
      (λ c. LocateEnds c.result (Zero c.args.1.0.now c.last.1.0))
  pub sill_locate_node :
      EachCall sillgarland_contracts.leaves.sill_locate_node.ended sillgarland.leaves.sill_locate_node.Reads.Asked sillgarland.leaves.sill_locate_node.Reads.Learnt sillgarland.leaves.sill_locate_node.Statement.statement
      (λ c. LocateEnds c.result (Zero c.args.1.1.1.1.1.1.0.now c.last.1.1.1.1.1.1.0))
  pub sill_locations :
      EachCallInModels sillgarland_contracts.locations.sill_locations.ended (λ M 𝓤. sillgarland_contracts.locations.sill_locations.clauses) sillgarland.locations.sill_locations.Statement.statement
      (λ κs a r ws. LocateEnds r (Zero a.1.1.1.0.now ws.1.1.1.0 × (ws.1.1.1.1.0 ≡ replicate (length a.1.1.1.1.0.now) blank)))
  pub sill_salvage :
      EachCall sillgarland_contracts.repairs.sill_salvage.ended sillgarland.repairs.sill_salvage.Reads.Asked sillgarland.repairs.sill_salvage.Reads.Learnt sillgarland.repairs.sill_salvage.Statement.statement
      (λ c.
      Ends c.result (λ (d : ℕ × Account). salvaged_struct (Ok (listed d.0 d.1))) unsalvaged
      (Zero c.args.1.1.1.0.now c.last.1.1.1.0))
  pub sill_sources :
      EachCall sillgarland_contracts.origins.sill_sources.ended sillgarland.origins.sill_sources.Reads.Asked sillgarland.origins.sill_sources.Reads.Learnt sillgarland.origins.sill_sources.Statement.statement
      (λ c.
      Ends c.result (λ (d : Counts). sourced_struct (Ok d)) (λ number place. record { refusal = number; place = place; from_entries = 0; with_line = 0; with_columns = 0; sure = 0 })
      (Zero c.args.1.1.1.0.now c.last.1.1.1.0))
  pub sill_join :
      EachCall sillgarland_contracts.joins.sill_join.ended sillgarland.joins.sill_join.Reads.Asked sillgarland.joins.sill_join.Reads.Learnt sillgarland.joins.sill_join.Statement.statement
      (λ c. JoinEnds c.result (Zero c.args.1.1.1.1.1.1.0.now c.last.1.1.1.1.1.1.0))
  pub sill_line_after :
      EachCall sillgarland_contracts.joins.sill_line_after.ended sillgarland.joins.sill_line_after.Reads.Asked sillgarland.joins.sill_line_after.Reads.Learnt sillgarland.joins.sill_line_after.Statement.statement
      (λ c. LineEnds c.result)
  pub sill_index-starts :
      EachCall sillgarland_contracts.rowstarts.sill_index_starts.ended sillgarland.rowstarts.sill_index_starts.Reads.Asked sillgarland.rowstarts.sill_index_starts.Reads.Learnt sillgarland.rowstarts.sill_index_starts.Statement.statement
      (λ c.
      Ends c.result (λ starts. indexed_struct (Ok starts)) (λ number place. record { refusal = number; place = place; starts = 0 })
      (Zero c.args.1.1.0.now c.last.1.1.0))
  pub sill_starts_before :
      EachCall sillgarland_contracts.rowstarts.sill_starts_before.ended sillgarland.rowstarts.sill_starts_before.Reads.Asked sillgarland.rowstarts.sill_starts_before.Reads.Learnt sillgarland.rowstarts.sill_starts_before.Statement.statement
      (λ c. StartEnds c.result)
  pub sill_start_at :
      EachCall sillgarland_contracts.rowstarts.sill_start_at.ended sillgarland.rowstarts.sill_start_at.Reads.Asked sillgarland.rowstarts.sill_start_at.Reads.Learnt sillgarland.rowstarts.sill_start_at.Statement.statement
      (λ c. StartEnds c.result)
  pub sill_setting :
      EachCall sillgarland_contracts.settingfiles.sill_setting.ended sillgarland.settingfiles.sill_setting.Reads.Asked sillgarland.settingfiles.sill_setting.Reads.Learnt sillgarland.settingfiles.sill_setting.Statement.statement
      (λ c. SettingEnds c.result)
  pub sill_rewrite_settings :
      EachCall sillgarland_contracts.settingfiles.sill_rewrite_settings.ended sillgarland.settingfiles.sill_rewrite_settings.Reads.Asked sillgarland.settingfiles.sill_rewrite_settings.Reads.Learnt sillgarland.settingfiles.sill_rewrite_settings.Statement.statement
      (λ c. RewriteEnds c.result (Zero c.args.1.1.0.now c.last.1.1.0))
  pub sill_save_edition :
      EachCall sillgarland_contracts.settingfiles.sill_save_edition.ended sillgarland.settingfiles.sill_save_edition.Reads.Asked sillgarland.settingfiles.sill_save_edition.Reads.Learnt sillgarland.settingfiles.sill_save_edition.Statement.statement
      (λ c. SaveEnds c.result (Zero c.args.1.1.0.now c.last.1.1.0))
  pub sill_edition :
      EachCall sillgarland_contracts.settingfiles.sill_edition.ended sillgarland.settingfiles.sill_edition.Reads.Asked sillgarland.settingfiles.sill_edition.Reads.Learnt sillgarland.settingfiles.sill_edition.Statement.statement
      (λ c. EditionEnds c.result)
  pub sill_golden_to_fields :
      EachCall sillgarland_contracts.goldenfiles.sill_golden_to_fields.ended sillgarland.goldenfiles.sill_golden_to_fields.Reads.Asked sillgarland.goldenfiles.sill_golden_to_fields.Reads.Learnt sillgarland.goldenfiles.sill_golden_to_fields.Statement.statement
      (λ c. MoveEnds c.result
      (Zero c.args.1.1.1.1.1.0.now c.last.1.1.1.1.1.0 × Zero c.args.1.0.now c.last.1.0 × Zero c.args.1.1.0.now c.last.1.1.0
      × Zero c.args.1.1.1.0.now c.last.1.1.1.0))
  pub sill_golden_from-fields :
      EachCall sillgarland_contracts.goldenfiles.sill_golden_from_fields.ended sillgarland.goldenfiles.sill_golden_from_fields.Reads.Asked sillgarland.goldenfiles.sill_golden_from_fields.Reads.Learnt sillgarland.goldenfiles.sill_golden_from_fields.Statement.statement
      (λ c. MoveEnds c.result
      (Zero c.args.1.1.1.1.1.0.now c.last.1.1.1.1.1.0 × Zero c.args.1.0.now c.last.1.0 × Zero c.args.1.1.0.now c.last.1.1.0
      × Zero c.args.1.1.1.0.now c.last.1.1.1.0))
  pub sill_split :
      EachCall sillgarland_contracts.locals.sill_split.ended sillgarland.locals.sill_split.Reads.Asked sillgarland.locals.sill_split.Reads.Learnt sillgarland.locals.sill_split.Statement.statement
      (λ c.
      Ends c.result (λ told. split_struct (Ok told)) (λ number place. record { refusal = number; place = place; locals = 0; cells = 0; frees = 0; present = 0 })
      (Zero c.args.1.1.1.1.1.0.now c.last.1.1.1.1.1.0
      × Zero c.args.1.1.1.1.1.1.0.now c.last.1.1.1.1.1.1.0
      × Zero c.args.1.1.1.1.1.1.1.0.now c.last.1.1.1.1.1.1.1.0
      × Zero c.args.1.1.1.1.1.1.1.1.0.now c.last.1.1.1.1.1.1.1.1.0
      × Zero c.args.1.1.1.1.1.1.1.1.1.0.now c.last.1.1.1.1.1.1.1.1.1.0))
  pub sill_read_exceptions :
      EachCall sillgarland_contracts.exceptions.sill_read_exceptions.ended sillgarland.exceptions.sill_read_exceptions.Reads.Asked sillgarland.exceptions.sill_read_exceptions.Reads.Learnt sillgarland.exceptions.sill_read_exceptions.Statement.statement
      (λ c.
      Ends c.result (λ count. decoded_struct (Ok count)) (λ number place. record { refusal = number; place = place; count = 0 })
      (Zero c.args.1.0.now c.last.1.0))
  pub sill_write_exceptions :
      EachCall sillgarland_contracts.exceptions.sill_write_exceptions.ended sillgarland.exceptions.sill_write_exceptions.Reads.Asked sillgarland.exceptions.sill_write_exceptions.Reads.Learnt sillgarland.exceptions.sill_write_exceptions.Statement.statement
      (λ c. VarintEnds c.result (Zero c.args.1.0.now c.last.1.0))
  pub sill_totals :
      EachCall sillgarland_contracts.nightly.sill_totals.ended sillgarland.nightly.sill_totals.Reads.Asked sillgarland.nightly.sill_totals.Reads.Learnt sillgarland.nightly.sill_totals.Statement.statement
      (λ c.
      Ends c.result (λ (done : Unit {0}). totalled_struct (Ok done)) (λ number place. record { refusal = number; place = place })
      (Zero c.args.1.1.0.now c.last.1.1.0))
  pub sill_add-totals :
      EachCall sillgarland_contracts.nightly.sill_add_totals.ended sillgarland.nightly.sill_add_totals.Reads.Asked sillgarland.nightly.sill_add_totals.Reads.Learnt sillgarland.nightly.sill_add_totals.Statement.statement
      (λ c.
      Ends c.result (λ (done : Unit {0}). totalled_struct (Ok done)) (λ number place. record { refusal = number; place = place })
      (Zero c.args.1.1.0.now c.last.1.1.0))
  pub sill_print_totals :
      EachCall sillgarland_contracts.nightly.sill_print_totals.ended sillgarland.nightly.sill_print_totals.Reads.Asked sillgarland.nightly.sill_print_totals.Reads.Learnt sillgarland.nightly.sill_print_totals.Statement.statement
      (λ c. VarintEnds c.result (Zero c.args.1.0.now c.last.1.0))
  pub sill_write_varint :
      EachCall sillgarland_contracts.varints.sill_write_varint.ended sillgarland.varints.sill_write_varint.Reads.Asked sillgarland.varints.sill_write_varint.Reads.Learnt sillgarland.varints.sill_write_varint.Statement.statement
      (λ c. VarintEnds c.result (Zero c.args.0.now c.last.0))
  pub sill_write-signed_varint :
      EachCall sillgarland_contracts.varints.sill_write_signed_varint.ended sillgarland.varints.sill_write_signed_varint.Reads.Asked sillgarland.varints.sill_write_signed_varint.Reads.Learnt sillgarland.varints.sill_write_signed_varint.Statement.statement
      (λ c. VarintEnds c.result (Zero c.args.0.now c.last.0))
  pub sill_write_varint_be :
      EachCall sillgarland_contracts.varints.sill_write_varint_be.ended sillgarland.varints.sill_write_varint_be.Reads.Asked sillgarland.varints.sill_write_varint_be.Reads.Learnt sillgarland.varints.sill_write_varint_be.Statement.statement
      (λ c. VarintEnds c.result (Zero c.args.0.now c.last.0))
  pub sill_write_varint_with_start :
      EachCall sillgarland_contracts.varints.sill_write_varint_with_start.ended sillgarland.varints.sill_write_varint_with_start.Reads.Asked sillgarland.varints.sill_write_varint_with_start.Reads.Learnt sillgarland.varints.sill_write_varint_with_start.Statement.statement
      (λ c. VarintEnds c.result (Zero c.args.0.now c.last.0))
  pub sill_read_varint :
      EachCall sillgarland_contracts.varints.sill_read_varint.ended sillgarland.varints.sill_read_varint.Reads.Asked sillgarland.varints.sill_read_varint.Reads.Learnt sillgarland.varints.sill_read_varint.Statement.statement
      (λ c. FoundEnds c.args.1.0 c.result)
  pub sill_read_varint_with_start :
      EachCall sillgarland_contracts.varints.sill_read_varint_with_start.ended sillgarland.varints.sill_read_varint_with_start.Reads.Asked sillgarland.varints.sill_read_varint_with_start.Reads.Learnt sillgarland.varints.sill_read_varint_with_start.Statement.statement
      (λ c. FoundEnds c.args.1.0 c.result)
