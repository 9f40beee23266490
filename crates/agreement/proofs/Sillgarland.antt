-- One answer for each call of the functions of `sillgarland`, the exports: the struct of 01's numbers and every store, by an
-- equation each.
use mathlib.Core.Path.{◌≡◌, refl}
use Prim.Native.Nat.{◌/◌, min}
use lib.ListN.{length}
use base.Logic.{id⊢}
use contract.Monad.{fact}
use Rattle.localsplus.proofs.Theorems.{one_answer}
use Rattle.linetable.specs.Walk.{Reading}
use Rattle.linetable.specs.Answer.{located, first_line_of, answer, records_of, locations_of}
use Rattle.sillgarland.specs.Locations.{located_struct}
use Rattle.sillgarland.proofs as sillgarland
use Rattle.sillgarland.specs.contracts as sillgarland_contracts
use Rattle.agreement.specs.Agreement.{Tells, Agree, AgreeInModels}
use Rattle.agreement.proofs.Same.{one, in_models}

pub sill_leaf_agrees : Agree sillgarland_contracts.leaves.sill_leaf.ended sillgarland.leaves.sill_leaf.Reads.Asked sillgarland.leaves.sill_leaf.Reads.Learnt
sill_leaf_agrees κs a asked r r' ws ws' p p' = (one p p', refl)

pub sill_span-agrees : Agree sillgarland_contracts.spans.sill_span.ended sillgarland.spans.sill_span.Reads.Asked sillgarland.spans.sill_span.Reads.Learnt
sill_span-agrees κs a asked r r' ws ws' p p' = (one p p', refl)

pub sill_locate_node-agrees : Agree sillgarland_contracts.leaves.sill_locate_node.ended sillgarland.leaves.sill_locate_node.Reads.Asked sillgarland.leaves.sill_locate_node.Reads.Learnt
sill_locate_node-agrees κs a asked r r' ws ws' p p' = (one p.0 p'.0, λ i. (tt, (tt, (tt, (tt, (tt, (tt, (one p.1 p'.1 i, tt))))))))

pub sill_split_agrees : Agree sillgarland_contracts.locals.sill_split.ended sillgarland.locals.sill_split.Reads.Asked sillgarland.locals.sill_split.Reads.Learnt
sill_split_agrees κs a asked r r' ws ws' p p' =
    let e = one_answer refl refl refl refl refl p.stores p'.stores in
    (one p.numbers p'.numbers, λ i. (tt, (tt, (tt, (tt, (tt, (e.1 i, (e.2 i, (e.3 i, (e.4 i, (e.5 i, tt)))))))))))

pub sill_locate_agrees : Agree sillgarland_contracts.locations.sill_locate.ended sillgarland.locations.sill_locate.Reads.Asked sillgarland.locations.sill_locate.Reads.Learnt
sill_locate_agrees κs a asked r r' ws ws' p p' = (one p.0 p'.0, λ i. (tt, (tt, (tt, (one p.1 p'.1 i, tt)))))

-- The export over a slice of `Location`: its clauses, as they stand in the source, say a plain fact in every model.
abbrev placed : Tells sillgarland_contracts.locations.sill_locations.ended
placed κs a r e =
    let reading : Reading = located a.0.now (first_line_of a.1.0) a.1.1.0 (min (length a.1.1.1.0.now / 4) (length a.1.1.1.1.0.now)) in
    (r ≡ located_struct (answer reading))
    × (e.1.1.1.0.now ≡ records_of (length a.1.1.1.0.now) reading)
    × (e.1.1.1.1.0.now ≡ locations_of (length a.1.1.1.1.0.now) reading)

pub sill_locations-agrees : AgreeInModels sillgarland_contracts.locations.sill_locations.ended (λ M 𝓤. sillgarland_contracts.locations.sill_locations.clauses)
sill_locations-agrees =
    in_models sillgarland_contracts.locations.sill_locations.ended (λ M 𝓤. sillgarland_contracts.locations.sill_locations.clauses) placed
    (λ M 𝓤 𝓛 mem run κs a g r e. id⊢ 𝓤 (fact 𝓤 (placed κs a r e)))
    (λ κs a asked r r' ws ws' p p'.
    (one p.0 p'.0, λ i. (tt, (tt, (tt, (one p.1 p'.1 i, (one p.2 p'.2 i, tt)))))))

pub sill_join-agrees : Agree sillgarland_contracts.joins.sill_join.ended sillgarland.joins.sill_join.Reads.Asked sillgarland.joins.sill_join.Reads.Learnt
sill_join-agrees κs a asked r r' ws ws' p p' = (one p.0 p'.0, λ i. (tt, (tt, (tt, (tt, (tt, (tt, (one p.1 p'.1 i, tt))))))))

pub sill_line_after-agrees : Agree sillgarland_contracts.joins.sill_line_after.ended sillgarland.joins.sill_line_after.Reads.Asked sillgarland.joins.sill_line_after.Reads.Learnt
sill_line_after-agrees κs a asked r r' ws ws' p p' = (one p p', refl)

pub sill_setting_agrees : Agree sillgarland_contracts.settingfiles.sill_setting.ended sillgarland.settingfiles.sill_setting.Reads.Asked sillgarland.settingfiles.sill_setting.Reads.Learnt
sill_setting_agrees κs a asked r r' ws ws' p p' = (one p p', refl)

pub sill_rewrite_settings-agrees :
    Agree sillgarland_contracts.settingfiles.sill_rewrite_settings.ended sillgarland.settingfiles.sill_rewrite_settings.Reads.Asked sillgarland.settingfiles.sill_rewrite_settings.Reads.Learnt
sill_rewrite_settings-agrees κs a asked r r' ws ws' p p' = (one p.0 p'.0, λ i. (tt, (tt, (one p.1 p'.1 i, tt))))

pub sill_save_edition_agrees :
    Agree sillgarland_contracts.settingfiles.sill_save_edition.ended sillgarland.settingfiles.sill_save_edition.Reads.Asked sillgarland.settingfiles.sill_save_edition.Reads.Learnt
sill_save_edition_agrees κs a asked r r' ws ws' p p' = (one p.0 p'.0, λ i. (tt, (tt, (one p.1 p'.1 i, tt))))

pub sill_edition_agrees : Agree sillgarland_contracts.settingfiles.sill_edition.ended sillgarland.settingfiles.sill_edition.Reads.Asked sillgarland.settingfiles.sill_edition.Reads.Learnt
sill_edition_agrees κs a asked r r' ws ws' p p' = (one p p', refl)

pub sill_golden_to_fields-agrees :
    Agree sillgarland_contracts.goldenfiles.sill_golden_to_fields.ended sillgarland.goldenfiles.sill_golden_to_fields.Reads.Asked sillgarland.goldenfiles.sill_golden_to_fields.Reads.Learnt
sill_golden_to_fields-agrees κs a asked r r' ws ws' p p' = (
  one p.numbers p'.numbers,
  λ i. (
    tt,
    (one p.clear_nodes p'.clear_nodes i, (one p.clear_entries p'.clear_entries i, (one p.clear_slots p'.clear_slots i, (tt, (one p.holds p'.holds i, tt))))),
  ),
)

pub sill_golden_from-fields-agrees :
    Agree sillgarland_contracts.goldenfiles.sill_golden_from_fields.ended sillgarland.goldenfiles.sill_golden_from_fields.Reads.Asked sillgarland.goldenfiles.sill_golden_from_fields.Reads.Learnt
sill_golden_from-fields-agrees κs a asked r r' ws ws' p p' = (
  one p.numbers p'.numbers,
  λ i. (
    tt,
    (one p.clear_nodes p'.clear_nodes i, (one p.clear_entries p'.clear_entries i, (one p.clear_slots p'.clear_slots i, (tt, (one p.holds p'.holds i, tt))))),
  ),
)

pub sill_locate_begin-agrees : Agree sillgarland_contracts.piecewise.sill_locate_begin.ended sillgarland.piecewise.sill_locate_begin.Reads.Asked sillgarland.piecewise.sill_locate_begin.Reads.Learnt
sill_locate_begin-agrees κs a asked r r' ws ws' p p' = (one p.answers p'.answers, λ i. (tt, (tt, (one p.states p'.states i, (one p.fills p'.fills i, tt)))))

pub sill_locate_piece-agrees : Agree sillgarland_contracts.piecewise.sill_locate_piece.ended sillgarland.piecewise.sill_locate_piece.Reads.Asked sillgarland.piecewise.sill_locate_piece.Reads.Learnt
sill_locate_piece-agrees κs a asked r r' ws ws' p p' = (one p.answers p'.answers, λ i. (tt, (one p.states p'.states i, (one p.fills p'.fills i, tt))))

pub sill_locate_end_agrees : Agree sillgarland_contracts.piecewise.sill_locate_end.ended sillgarland.piecewise.sill_locate_end.Reads.Asked sillgarland.piecewise.sill_locate_end.Reads.Learnt
sill_locate_end_agrees κs a asked r r' ws ws' p p' = (one p.answers p'.answers, λ i. (one p.states p'.states i, (one p.fills p'.fills i, tt)))

pub sill_salvage-agrees : Agree sillgarland_contracts.repairs.sill_salvage.ended sillgarland.repairs.sill_salvage.Reads.Asked sillgarland.repairs.sill_salvage.Reads.Learnt
sill_salvage-agrees κs a asked r r' ws ws' p p' = (one p.0 p'.0, λ i. (tt, (tt, (tt, (one p.1 p'.1 i, tt)))))

pub sill_sources-agrees : Agree sillgarland_contracts.origins.sill_sources.ended sillgarland.origins.sill_sources.Reads.Asked sillgarland.origins.sill_sources.Reads.Learnt
sill_sources-agrees κs a asked r r' ws ws' p p' = (one p.0 p'.0, λ i. (tt, (tt, (tt, (one p.1 p'.1 i, tt)))))

pub sill_read-agrees : Agree sillgarland_contracts.values.sill_read.ended sillgarland.values.sill_read.Reads.Asked sillgarland.values.sill_read.Reads.Learnt
sill_read-agrees κs a asked r r' ws ws' p p' = (
  one p.numbers p'.numbers,
  λ i. (tt, (one p.holds-nodes p'.holds-nodes i, (one p.holds-entries p'.holds-entries i, (one p.holds-slots p'.holds-slots i, (tt, tt))))),
)

pub sill_keep_agrees : Agree sillgarland_contracts.reclaiming.sill_keep.ended sillgarland.reclaiming.sill_keep.Reads.Asked sillgarland.reclaiming.sill_keep.Reads.Learnt
sill_keep_agrees κs a asked r r' ws ws' p p' = (
  one p.numbers p'.numbers,
  λ i. (
    one p.holds-nodes p'.holds-nodes i,
    (one p.holds-entries p'.holds-entries i, (one p.holds-slots p'.holds-slots i, (tt, (tt, (tt, (one p.cleared p'.cleared i, tt)))))),
  ),
)

pub sill_keep_need-agrees : Agree sillgarland_contracts.reclaiming.sill_keep_need.ended sillgarland.reclaiming.sill_keep_need.Reads.Asked sillgarland.reclaiming.sill_keep_need.Reads.Learnt
sill_keep_need-agrees κs a asked r r' ws ws' p p' = (one p p', refl)

pub sill_read_more_agrees : Agree sillgarland_contracts.reclaiming.sill_read_more.ended sillgarland.reclaiming.sill_read_more.Reads.Asked sillgarland.reclaiming.sill_read_more.Reads.Learnt
sill_read_more_agrees κs a asked r r' ws ws' p p' = (
  one p.numbers p'.numbers,
  λ i. (tt, (one p.holds-nodes p'.holds-nodes i, (one p.holds-entries p'.holds-entries i, (one p.holds-slots p'.holds-slots i, (tt, (tt, (tt, (tt, tt)))))))),
)

pub sill_write-agrees : Agree sillgarland_contracts.values.sill_write.ended sillgarland.values.sill_write.Reads.Asked sillgarland.values.sill_write.Reads.Learnt
sill_write-agrees κs a asked r r' ws ws' p p' =
    (one p.numbers p'.numbers, λ i. (tt, (tt, (tt, (tt, (tt, (tt, (tt, (one p.holds p'.holds i, tt)))))))))

pub sill_write_varint_agrees : Agree sillgarland_contracts.varints.sill_write_varint.ended sillgarland.varints.sill_write_varint.Reads.Asked sillgarland.varints.sill_write_varint.Reads.Learnt
sill_write_varint_agrees κs a asked r r' ws ws' p p' = (λ i. (one p p' i).0, λ i. ((one p p' i).1, (tt, tt)))

pub sill_write-signed_varint_agrees : Agree sillgarland_contracts.varints.sill_write_signed_varint.ended sillgarland.varints.sill_write_signed_varint.Reads.Asked sillgarland.varints.sill_write_signed_varint.Reads.Learnt
sill_write-signed_varint_agrees κs a asked r r' ws ws' p p' = (λ i. (one p p' i).0, λ i. ((one p p' i).1, (tt, tt)))

pub sill_write_varint_be_agrees : Agree sillgarland_contracts.varints.sill_write_varint_be.ended sillgarland.varints.sill_write_varint_be.Reads.Asked sillgarland.varints.sill_write_varint_be.Reads.Learnt
sill_write_varint_be_agrees κs a asked r r' ws ws' p p' = (λ i. (one p p' i).0, λ i. ((one p p' i).1, (tt, tt)))

pub sill_write_varint_with_start_agrees : Agree sillgarland_contracts.varints.sill_write_varint_with_start.ended sillgarland.varints.sill_write_varint_with_start.Reads.Asked sillgarland.varints.sill_write_varint_with_start.Reads.Learnt
sill_write_varint_with_start_agrees κs a asked r r' ws ws' p p' = (λ i. (one p p' i).0, λ i. ((one p p' i).1, (tt, tt)))

pub sill_read_varint_agrees : Agree sillgarland_contracts.varints.sill_read_varint.ended sillgarland.varints.sill_read_varint.Reads.Asked sillgarland.varints.sill_read_varint.Reads.Learnt
sill_read_varint_agrees κs a asked r r' ws ws' p p' = (one p p', refl)

pub sill_read_varint_with_start_agrees : Agree sillgarland_contracts.varints.sill_read_varint_with_start.ended sillgarland.varints.sill_read_varint_with_start.Reads.Asked sillgarland.varints.sill_read_varint_with_start.Reads.Learnt
sill_read_varint_with_start_agrees κs a asked r r' ws ws' p p' = (one p p', refl)

pub sill_read_exceptions_agrees : Agree sillgarland_contracts.exceptions.sill_read_exceptions.ended sillgarland.exceptions.sill_read_exceptions.Reads.Asked sillgarland.exceptions.sill_read_exceptions.Reads.Learnt
sill_read_exceptions_agrees κs a asked r r' ws ws' p p' = (λ i. (one p p' i).0, λ i. (tt, ((one p p' i).1, tt)))

pub sill_write_exceptions_agrees : Agree sillgarland_contracts.exceptions.sill_write_exceptions.ended sillgarland.exceptions.sill_write_exceptions.Reads.Asked sillgarland.exceptions.sill_write_exceptions.Reads.Learnt
sill_write_exceptions_agrees κs a asked r r' ws ws' p p' = (λ i. (one p p' i).0, λ i. (tt, ((one p p' i).1, tt)))

pub sill_index-starts-agrees : Agree sillgarland_contracts.rowstarts.sill_index_starts.ended sillgarland.rowstarts.sill_index_starts.Reads.Asked sillgarland.rowstarts.sill_index_starts.Reads.Learnt
sill_index-starts-agrees κs a asked r r' ws ws' p p' = (λ i. (one p p' i).0, λ i. (tt, (tt, ((one p p' i).1, tt))))

pub sill_starts_before-agrees : Agree sillgarland_contracts.rowstarts.sill_starts_before.ended sillgarland.rowstarts.sill_starts_before.Reads.Asked sillgarland.rowstarts.sill_starts_before.Reads.Learnt
sill_starts_before-agrees κs a asked r r' ws ws' p p' = (one p p', refl)

pub sill_start_at-agrees : Agree sillgarland_contracts.rowstarts.sill_start_at.ended sillgarland.rowstarts.sill_start_at.Reads.Asked sillgarland.rowstarts.sill_start_at.Reads.Learnt
sill_start_at-agrees κs a asked r r' ws ws' p p' = (one p p', refl)

pub sill_totals-agrees : Agree sillgarland_contracts.nightly.sill_totals.ended sillgarland.nightly.sill_totals.Reads.Asked sillgarland.nightly.sill_totals.Reads.Learnt
sill_totals-agrees κs a asked r r' ws ws' p p' = (λ i. (one p p' i).0, λ i. (tt, (tt, ((one p p' i).1, tt))))

pub sill_add-totals-agrees : Agree sillgarland_contracts.nightly.sill_add_totals.ended sillgarland.nightly.sill_add_totals.Reads.Asked sillgarland.nightly.sill_add_totals.Reads.Learnt
sill_add-totals-agrees κs a asked r r' ws ws' p p' = (λ i. (one p p' i).0, λ i. (tt, (tt, ((one p p' i).1, tt))))

pub sill_print_totals-agrees : Agree sillgarland_contracts.nightly.sill_print_totals.ended sillgarland.nightly.sill_print_totals.Reads.Asked sillgarland.nightly.sill_print_totals.Reads.Learnt
sill_print_totals-agrees κs a asked r r' ws ws' p p' = (λ i. (one p p' i).0, λ i. (tt, ((one p p' i).1, tt)))
