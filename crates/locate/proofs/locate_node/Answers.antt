-- `locate::locate_node` meets its contract: the laws on a sound node, and what `linetable_to_records` ensures of its part.
-- Assumes nothing.
use mathlib.Core.Path.{sym, ap, ◌∙◌}
use Prim.Native.Nat.{◌/◌}
use native.Mathlib.Omega.{arith}
use lib.ListN.{length}
use mir.Facts.{to_z-of_z}
use Rattle.std.specs.Prelude.{Err}
use Rattle.grammar.specs.State.{Node}
use Rattle.linetable.specs.Answer.{first_line_of, numbered, records_of}
use Rattle.fields.proofs.Laws.{part}
use Rattle.soundness.proofs.Soundness.{in_store}
use Rattle.locate.proofs.Sound.{sound-span, too_long, unsound, table}
use Rattle.locate.proofs.locate_node.Goals as goal

pub returns-then-input : goal.returns-then-input
unfolding records_of
returns-then-input c =
    let a = c.args in
    let capacity = length a.records.now / 4 in
    rw (too_long a.input.now a.nodes.now a.used a.node (first_line_of a.first_line) a.count capacity c.if-input.true)
    (ap numbered (c.refuse.ensures.0 ∙ ap Err c.at.ensures), c.refuse.ensures.1)

pub returns-then-not-sound_at : goal.returns-then-not-sound_at
unfolding records_of
returns-then-not-sound_at c =
    let a = c.args in
    let capacity = length a.records.now / 4 in
    let bad = sym c.sound_at.ensures ∙ c.if-not-sound_at.true in
    rw (unsound a.input.now a.nodes.now a.used a.node (first_line_of a.first_line) a.count capacity c.if-input.false bad)
    (ap numbered (c.refuse-then-not-sound_at.ensures.0 ∙ ap Err c.at-then-not-sound_at.ensures), c.refuse-then-not-sound_at.ensures.1)

pub node_at-found-requires : goal.node_at-found-requires
node_at-found-requires c =
    let a = c.args in
    in_store a.input.now a.nodes.now a.used a.node (sym c.sound_at.ensures ∙ c.if-not-sound_at.false)

pub slice_bounds-linetable_to_records-end : goal.slice_bounds-linetable_to_records-end
slice_bounds-linetable_to_records-end c =
    let a = c.args in
    let good = sym c.sound_at.ensures ∙ c.if-not-sound_at.false in
    let same = c.node_at-found.ensures in
    omega (arith, sound-span a.input.now a.nodes.now a.used a.node good, ap (λ (m : Node). m.place) same, ap (λ (m : Node). m.size) same)

pub returns : goal.returns
unfolding records_of
returns c =
    let a = c.args in
    let good = sym c.sound_at.ensures ∙ c.if-not-sound_at.false in
    let node = c.node_at-found in
    let same = node.ensures in
    let found = simp (to_z-of_z c.ranges.first_line) at c.linetable_to_records.ensures in
    rw (
      table a.input.now a.nodes.now a.used a.node (first_line_of a.first_line) a.count (length a.records.now / 4)
          c.if-input.false good (sym (ap (λ (m : Node). m.letter) same) ∙ c.if-found-ne-BYTES_LETTER.false) node.result.place node.result.size
          (ap (λ (m : Node). m.place) same) (ap (λ (m : Node). m.size) same),
      ← part a.input.now node.result.place node.result.size,
    )
    found
