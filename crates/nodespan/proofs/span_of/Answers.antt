-- The length, the record, the span, and then the question. Assumes nothing.
use mathlib.Core.Path.{sym, ◌∙◌}
use borrow.Author.Tests.{lt-ltb, le-ltb}
use Rattle.grammar.specs.Record.{tables_of}
use Rattle.soundness.proofs.Soundness.{in_store}
use Rattle.nodespan.specs.Span as definition
use Rattle.nodespan.proofs.Answers.{span_unsound, span_outside, span-sound}
use Rattle.nodespan.proofs.span_of.Goals as goal

pub returns-then-input : goal.returns-then-input
unfolding definition.span_of
returns-then-input c = rw (c.at.ensures, lt-ltb _ _ c.if-input.true)

pub returns-then-not-sound_at : goal.returns-then-not-sound_at
returns-then-not-sound_at c =
    let a = c.args in
    let t = tables_of a.input.now a.nodes.now a.entries.now a.used_nodes a.used_entries in
    rw c.at-then-not-sound_at.ensures
    (span_unsound t a.node (le-ltb _ _ c.if-input.false) (sym c.sound_at.ensures ∙ c.if-not-sound_at.true))

pub node_at-requires : goal.node_at-requires
node_at-requires c =
    let a = c.args in
    in_store a.input.now a.nodes.now a.used_nodes a.node (sym c.sound_at.ensures ∙ c.if-not-sound_at.false)

pub returns-then-not-spanned : goal.returns-then-not-spanned
returns-then-not-spanned c =
    let a = c.args in
    let t = tables_of a.input.now a.nodes.now a.entries.now a.used_nodes a.used_entries in
    rw c.at-then-not-spanned.ensures
    (span_outside t a.node (le-ltb _ _ c.if-input.false) (sym c.sound_at.ensures ∙ c.if-not-sound_at.false) c.node_at.ensures c.spanned.ensures c.if-not-spanned.true)

pub returns : goal.returns
returns c =
    let a = c.args in
    let t = tables_of a.input.now a.nodes.now a.entries.now a.used_nodes a.used_entries in
    span-sound t a.node (le-ltb _ _ c.if-input.false) (sym c.sound_at.ensures ∙ c.if-not-sound_at.false) c.node_at.ensures c.spanned.ensures _ c.if-not-spanned.false c.nodes_in.ensures c.entries_in.ensures.0 c.input_of.ensures c.header_of.ensures c.end_of.ensures c.span_at.ensures
