-- DEMAND 1: no export asks anything; each call returns; and it ends in its answer, or in a refusal of 01's table with every store lent for
-- writing all zero, but for those that 02 exempts. By cases of the definition that each contract cites. Assumes nothing.
use Prim.Native.Nat.{◌/◌, min}
use lib.ListN.{length}
use mir.Syntax.{w32}
use mir.Val.{of_z}
use base.Logic.{emp, id⊢}
use contract.Monad.{fact_mono}
use Rattle.grammar.specs.Leaf.{leaf_of}
use Rattle.grammar.specs.Record.{tables_of}
use Rattle.linetable.specs.Answer.{located, first_line_of}
use Rattle.locate.specs.Part.{located_at}
use Rattle.localsplus.specs.Kind.{local_bit, cell_bit, free_bit}
use Rattle.localsplus.specs.Lists.{positions, deref_map, cell_to_argument}
use Rattle.localsplus.specs.Sum.{argument_sum}
use Rattle.localsplus.specs.Answer.{rooms_of, split_of}
use Rattle.varint.specs.Writing.{little_endian, big_endian, big_endian_with_start}
use Rattle.varintread.specs.Reading.{read_varint, read_varint_with_start}
use Rattle.varint.specs.Answers.{stored, stored_signed}
use Rattle.exceptiontable.specs.Reading.{decoded_of}
use Rattle.exceptiontable.specs.Writing.{encoded_of}
use Rattle.totals.specs.Totals.{totals_of, added_of}
use Rattle.printedtotals.specs.Lines.{printed_of}
use Rattle.sources.specs.Marks.{sources}
use Rattle.readalone.specs.Alone.{lent}
use Rattle.goldens.specs.Moving.{to_fields, to_plain}
use Rattle.sillgarland.proofs as sillgarland
use Rattle.promises.specs.Calls.{sill_write}
use Rattle.promises.specs.Demand1.{Demand1}
use Rattle.promises.proofs.Reading.{written_by}
use Rattle.promises.proofs.LineEnds.{locate_ends, locations_end, salvage-ends, sources_end}
use Rattle.promises.proofs.Joins.{join-ends, line-ends}
use Rattle.promises.proofs.Exceptions.{decoded_in_table, tabled_decoded_ends, encoded_in_table}
use Rattle.promises.proofs.Goldens.{to_fields_tabled, to_plain_tabled, move_ends}
use Rattle.promises.proofs.Settings.{setting_ends, rewrite_ends, save_ends, edition_ends}
use Rattle.promises.proofs.Piecewise.{pieced-ends}
use Rattle.cuttings.proofs.Answered.{begin-ends, piece-ends, end_ends}
use Rattle.promises.proofs.RowStarts.{index-ends, before-ends, at_ends}
use Rattle.nodespan.specs.Span.{span_of}
use Rattle.promises.proofs.Spans.{span_in_table, span-ends}
use Rattle.promises.proofs.Nightly.{totals_in_table, added_in_table, tabled_totalled_ends, printed_in_table}
use Rattle.promises.proofs.Numbers.{leaf_in_table, located_in_table, located_at_in_table, stored_in_table, signed_in_table, written_in_table}
use Rattle.promises.proofs.ValueEnds.{read-ends, write_ends, leaf_ends, tabled_varint_ends, split_ends, found-ends}
use Rattle.promises.proofs.Reclaiming.{keep_ends, more_ends}

pub demand_1 : Demand1
demand_1 =
    record {
      sill_read_here =
          record {
            asks_nothing = λ κs a. tt;
            returns = λ M. sillgarland.values.sill_read.Met.met;
            ends =
                λ c.
                let a = c.args in
                read-ends a.0.now a.1.0.now a.1.1.0.now a.1.1.1.0.now a.1.1.1.1.0 c.result _ _ _ c.meets;
          };
      sill_write_here =
          record {
            asks_nothing = λ κs a. tt;
            returns = λ M. sillgarland.values.sill_write.Met.met;
            ends =
                λ c.
                write_ends (written_by sill_write c) (written_in_table (sill_write.tables c) (sill_write.root c) (sill_write.nesting c) (sill_write.room c))
                c.args.1.1.1.1.1.1.1.0.now c.result _ c.meets;
          };
      sill_keep =
          record {
            asks_nothing = λ κs a. tt;
            returns = λ M. sillgarland.reclaiming.sill_keep.Met.met;
            ends =
                λ c.
                let a = c.args in
                let b = a.1.1.1 in
                keep_ends a.0.now a.1.0.now a.1.1.0.now b.0 b.1.0 b.1.1.0 b.1.1.1.0.now c.result _ _ _ _ c.meets;
          };
      sill_keep_need = record { asks_nothing = λ κs a. tt; returns = λ M. sillgarland.reclaiming.sill_keep_need.Met.met; ends = λ c. c.meets };
      sill_read_more =
          record {
            asks_nothing = λ κs a. tt;
            returns = λ M. sillgarland.reclaiming.sill_read_more.Met.met;
            ends =
                λ c.
                let a = c.args in
                let b = a.1.1.1.1 in
                more_ends a.0.now a.1.0.now a.1.1.0.now a.1.1.1.0.now b.0 b.1.0 b.1.1.0 b.1.1.1.0 c.result _ _ _ c.meets;
          };
      sill_leaf =
          record {
            asks_nothing = λ κs a. tt;
            returns = λ M. sillgarland.leaves.sill_leaf.Met.met;
            ends =
                λ c.
                let a = c.args in
                leaf_ends (leaf_of a.0.now a.1.0.now a.1.1.0 a.1.1.1.0) (leaf_in_table a.0.now a.1.0.now a.1.1.0 a.1.1.1.0) c.result c.meets;
          };
      sill_span =
          record {
            asks_nothing = λ κs a. tt;
            returns = λ M. sillgarland.spans.sill_span.Met.met;
            ends =
                λ c.
                let a = c.args in
                let t = tables_of a.0.now a.1.0.now a.1.1.0.now a.1.1.1.0 a.1.1.1.1.0 in
                span-ends (span_of t a.1.1.1.1.1.0) (span_in_table t a.1.1.1.1.1.0) c.result c.meets;
          };
      sill_locate =
          record {
            asks_nothing = λ κs a. tt;
            returns = λ M. sillgarland.locations.sill_locate.Met.met;
            ends =
                λ c.
                let a = c.args in
                let room = length a.1.1.1.0.now / 4 in
                locate_ends (located a.0.now (first_line_of a.1.0) a.1.1.0 room) (located_in_table a.0.now (first_line_of a.1.0) a.1.1.0 room)
                a.1.1.1.0.now _ c.result c.meets.0 c.meets.1;
          };
      sill_locate_begin =
          record {
            asks_nothing = λ κs a. tt;
            returns = λ M. sillgarland.piecewise.sill_locate_begin.Met.met;
            ends = λ c. let a = c.args in pieced-ends a.1.1.1.0.now (begin-ends (first_line_of a.0) a.1.0 a.1.1.0.now a.1.1.1.0.now) c.meets.answers c.meets.fills;
          };
      sill_locate_piece =
          record {
            asks_nothing = λ κs a. tt;
            returns = λ M. sillgarland.piecewise.sill_locate_piece.Met.met;
            ends = λ c. let a = c.args in pieced-ends a.1.1.0.now (piece-ends a.0.now a.1.0.now a.1.1.0.now) c.meets.answers c.meets.fills;
          };
      sill_locate_end =
          record {
            asks_nothing = λ κs a. tt;
            returns = λ M. sillgarland.piecewise.sill_locate_end.Met.met;
            ends = λ c. let a = c.args in pieced-ends a.1.0.now (end_ends a.0.now a.1.0.now) c.meets.answers c.meets.fills;
          };
      sill_locate_node =
          record {
            asks_nothing = λ κs a. tt;
            returns = λ M. sillgarland.leaves.sill_locate_node.Met.met;
            ends =
                λ c.
                let a = c.args in
                let b = a.1.1.1.1 in
                let room = length b.1.1.0.now / 4 in
                locate_ends (located_at a.0.now a.1.0.now a.1.1.0 a.1.1.1.0 (first_line_of b.0) b.1.0 room)
                (located_at_in_table a.0.now a.1.0.now a.1.1.0 a.1.1.1.0 (first_line_of b.0) b.1.0 room)
                b.1.1.0.now _ c.result c.meets.0 c.meets.1;
          };
      sill_locations =
          record {
            asks_nothing = λ M 𝓤 𝓛 mem run κs a g. id⊢ 𝓤 (emp 𝓤);
            returns = λ M. sillgarland.locations.sill_locations.Met.met;
            ends =
                λ M 𝓤 𝓛 mem run κs a g r ws.
                let b = a.1.1.1 in
                let room = min (length b.0.now / 4) (length b.1.0.now) in
                fact_mono 𝓤 _ _ (λ p.
                locations_end (located a.0.now (first_line_of a.1.0) a.1.1.0 room) (located_in_table a.0.now (first_line_of a.1.0) a.1.1.0 room)
                b.0.now ws.1.1.1.0 b.1.0.now ws.1.1.1.1.0 r p.0 p.1 p.2);
          };
      sill_salvage =
          record {
            asks_nothing = λ κs a. tt;
            returns = λ M. sillgarland.repairs.sill_salvage.Met.met;
            ends =
                λ c.
                let a = c.args in
                salvage-ends a.0.now (first_line_of a.1.0) a.1.1.0 a.1.1.1.0.now _ c.result c.meets.0 c.meets.1;
          };
      sill_sources =
          record {
            asks_nothing = λ κs a. tt;
            returns = λ M. sillgarland.origins.sill_sources.Met.met;
            ends =
                λ c.
                let a = c.args in
                let lent = a.1.1.1.0.now in
                let first = first_line_of a.1.0 in
                sources_end (sources a.0.now first a.1.1.0 (length lent)) lent _ c.result c.meets.0 c.meets.1;
          };
      sill_join =
          record {
            asks_nothing = λ κs a. tt;
            returns = λ M. sillgarland.joins.sill_join.Met.met;
            ends =
                λ c.
                let a = c.args in
                let b = a.1.1.1 in
                join-ends a.0.now (first_line_of a.1.0) a.1.1.0 b.0.now (first_line_of b.1.0) b.1.1.0 b.1.1.1.0.now _ c.result c.meets.0 c.meets.1;
          };
      sill_line_after =
          record {
            asks_nothing = λ κs a. tt;
            returns = λ M. sillgarland.joins.sill_line_after.Met.met;
            ends = λ c. let a = c.args in line-ends a.0.now (first_line_of a.1.0) a.1.1.0 c.result c.meets;
          };
      sill_index-starts =
          record {
            asks_nothing = λ κs a. tt;
            returns = λ M. sillgarland.rowstarts.sill_index_starts.Met.met;
            ends = λ c. index-ends c.args.0.now c.args.1.0 c.args.1.1.0.now _ c.result c.meets;
          };
      sill_starts_before =
          record {
            asks_nothing = λ κs a. tt;
            returns = λ M. sillgarland.rowstarts.sill_starts_before.Met.met;
            ends = λ c. before-ends c.args.0.now c.args.1.0 c.args.1.1.0 c.result c.meets;
          };
      sill_start_at =
          record {
            asks_nothing = λ κs a. tt;
            returns = λ M. sillgarland.rowstarts.sill_start_at.Met.met;
            ends = λ c. at_ends c.args.0.now c.args.1.0 c.args.1.1.0 c.result c.meets;
          };
      sill_setting =
          record {
            asks_nothing = λ κs a. tt;
            returns = λ M. sillgarland.settingfiles.sill_setting.Met.met;
            ends = λ c. let a = c.args in setting_ends a.0.now a.1.0.now a.1.1.0 c.result c.meets;
          };
      sill_rewrite_settings =
          record {
            asks_nothing = λ κs a. tt;
            returns = λ M. sillgarland.settingfiles.sill_rewrite_settings.Met.met;
            ends = λ c. let a = c.args in rewrite_ends a.0.now a.1.0.now a.1.1.0.now _ c.result c.meets.0 c.meets.1;
          };
      sill_save_edition =
          record {
            asks_nothing = λ κs a. tt;
            returns = λ M. sillgarland.settingfiles.sill_save_edition.Met.met;
            ends = λ c. let a = c.args in save_ends a.0.now a.1.0.now a.1.1.0.now _ c.result c.meets.0 c.meets.1;
          };
      sill_edition =
          record {
            asks_nothing = λ κs a. tt;
            returns = λ M. sillgarland.settingfiles.sill_edition.Met.met;
            ends = λ c. let a = c.args in edition_ends a.0.now a.1.0.now c.result c.meets;
          };
      sill_golden_to_fields =
          record {
            asks_nothing = λ κs a. tt;
            returns = λ M. sillgarland.goldenfiles.sill_golden_to_fields.Met.met;
            ends =
                λ c.
                let a = c.args in
                let R = lent (length a.1.0.now) (length a.1.1.0.now) (length a.1.1.1.0.now) a.1.1.1.1.0 in
                move_ends (to_fields R a.0.now) (to_fields_tabled R a.0.now) c.result a.1.1.1.1.1.0.now _ a.1.0.now _ a.1.1.0.now _ a.1.1.1.0.now _ c.meets;
          };
      sill_golden_from-fields =
          record {
            asks_nothing = λ κs a. tt;
            returns = λ M. sillgarland.goldenfiles.sill_golden_from_fields.Met.met;
            ends =
                λ c.
                let a = c.args in
                let R = lent (length a.1.0.now) (length a.1.1.0.now) (length a.1.1.1.0.now) a.1.1.1.1.0 in
                move_ends (to_plain R a.0.now) (to_plain_tabled R a.0.now) c.result a.1.1.1.1.1.0.now _ a.1.0.now _ a.1.1.0.now _ a.1.1.1.0.now _ c.meets;
          };
      sill_split =
          record {
            asks_nothing = λ κs a. tt;
            returns = λ M. sillgarland.locals.sill_split.Met.met;
            ends =
                λ c.
                let a = c.args in
                let b = a.1.1.1.1.1 in
                let rooms = rooms_of b.0.now b.1.0.now b.1.1.0.now b.1.1.1.0.now b.1.1.1.1.0.now in
                let sum = argument_sum a.1.1.0 a.1.1.1.0 a.1.1.1.1.0 in
                let s = c.meets.stores in
                split_ends (split_of a.0.now a.1.0 a.1.1.0 a.1.1.1.0 a.1.1.1.1.0 rooms)
                c.result c.meets.numbers
                b.0.now b.1.0.now b.1.1.0.now b.1.1.1.0.now b.1.1.1.1.0.now _ _ _ _ _
                (positions local_bit a.0.now) (positions cell_bit a.0.now) (positions free_bit a.0.now) (deref_map a.0.now) (cell_to_argument sum a.0.now)
                s.holds-locals s.holds-cells s.holds-frees s.holds-map s.holds_arguments;
          };
      sill_write_varint =
          record {
            asks_nothing = λ κs a. tt;
            returns = λ M. sillgarland.varints.sill_write_varint.Met.met;
            ends = λ c. tabled_varint_ends (stored (length c.args.0.now) (little_endian c.args.1.0)) c.args.0.now (stored_in_table _ (little_endian c.args.1.0)) c.result _ c.meets;
          };
      sill_write-signed_varint =
          record {
            asks_nothing = λ κs a. tt;
            returns = λ M. sillgarland.varints.sill_write_signed_varint.Met.met;
            ends = λ c. tabled_varint_ends (stored_signed (length c.args.0.now) (of_z w32 c.args.1.0)) c.args.0.now (signed_in_table _ (of_z w32 c.args.1.0)) c.result _ c.meets;
          };
      sill_write_varint_be =
          record {
            asks_nothing = λ κs a. tt;
            returns = λ M. sillgarland.varints.sill_write_varint_be.Met.met;
            ends = λ c. tabled_varint_ends (stored (length c.args.0.now) (big_endian c.args.1.0)) c.args.0.now (stored_in_table _ (big_endian c.args.1.0)) c.result _ c.meets;
          };
      sill_write_varint_with_start =
          record {
            asks_nothing = λ κs a. tt;
            returns = λ M. sillgarland.varints.sill_write_varint_with_start.Met.met;
            ends = λ c. tabled_varint_ends (stored (length c.args.0.now) (big_endian_with_start c.args.1.0)) c.args.0.now (stored_in_table _ (big_endian_with_start c.args.1.0)) c.result _ c.meets;
          };
      sill_read_exceptions =
          record {
            asks_nothing = λ κs a. tt;
            returns = λ M. sillgarland.exceptions.sill_read_exceptions.Met.met;
            ends =
                λ c.
                let room = length c.args.1.0.now in
                tabled_decoded_ends (decoded_of c.args.0.now room) c.args.1.0.now (decoded_in_table c.args.0.now room) c.result _ c.meets;
          };
      sill_write_exceptions =
          record {
            asks_nothing = λ κs a. tt;
            returns = λ M. sillgarland.exceptions.sill_write_exceptions.Met.met;
            ends =
                λ c.
                let room = length c.args.1.0.now in
                tabled_varint_ends (encoded_of c.args.0.now room) c.args.1.0.now (encoded_in_table c.args.0.now room) c.result _ c.meets;
          };
      sill_totals =
          record {
            asks_nothing = λ κs a. tt;
            returns = λ M. sillgarland.nightly.sill_totals.Met.met;
            ends =
                λ c.
                let room = length c.args.1.1.0.now in
                tabled_totalled_ends (totals_of c.args.0.now c.args.1.0.now room) c.args.1.1.0.now (totals_in_table c.args.0.now c.args.1.0.now room) c.result _ c.meets;
          };
      sill_add-totals =
          record {
            asks_nothing = λ κs a. tt;
            returns = λ M. sillgarland.nightly.sill_add_totals.Met.met;
            ends =
                λ c.
                let room = length c.args.1.1.0.now in
                tabled_totalled_ends (added_of c.args.0.now c.args.1.0.now room) c.args.1.1.0.now (added_in_table c.args.0.now c.args.1.0.now room) c.result _ c.meets;
          };
      sill_print_totals =
          record {
            asks_nothing = λ κs a. tt;
            returns = λ M. sillgarland.nightly.sill_print_totals.Met.met;
            ends =
                λ c.
                let room = length c.args.1.0.now in
                tabled_varint_ends (printed_of c.args.0.now room) c.args.1.0.now (printed_in_table c.args.0.now room) c.result _ c.meets;
          };
      sill_read_varint =
          record {
            asks_nothing = λ κs a. tt;
            returns = λ M. sillgarland.varints.sill_read_varint.Met.met;
            ends =
                λ c. found-ends c.args.1.0 (read_varint c.args.0.now c.args.1.0) c.result c.meets;
          };
      sill_read_varint_with_start =
          record {
            asks_nothing = λ κs a. tt;
            returns = λ M. sillgarland.varints.sill_read_varint_with_start.Met.met;
            ends =
                λ c. found-ends c.args.1.0 (read_varint_with_start c.args.0.now c.args.1.0) c.result c.meets;
          };
    }
