-- What document 02's requests promise: the theorem of each request's own crate. Assumes nothing.
use Rattle.exceptiontable.proofs.Promised.{exception_tables_keep_their_promises}
use Rattle.totals.proofs.Promised.{totals_keep_their_promises}
use Rattle.printedtotals.proofs.Promised.{printed_totals_keep_their_promises}
use Rattle.salvage.proofs.Promised.{salvage-keeps_its_promises}
use Rattle.cuttings.proofs.Promised.{pieces_keep_their_promises}
use Rattle.join.proofs.Promised.{join-keeps_its_promises}
use Rattle.join.proofs.Reading.{line-keeps_its_promises}
use Rattle.starts.proofs.Promised.{starts_keep_their_promises}
use Rattle.alone.proofs.Promised.{spans_keep_their_promises}
use Rattle.carried.proofs.Promised.{moves_keep_their_promises}
use Rattle.appended.proofs.Promised.{appends_keep_their_promises}
use Rattle.oneinput.proofs.Promised.{inputs_keep_their_promises}
use Rattle.taggedfields.proofs.Promised.{fields_keep_their_promises}
use Rattle.settings.proofs.Promised.{settings_keep_their_promises}
use Rattle.editions.proofs.Promised.{editions_keep_their_promises}
use Rattle.goldentrips.proofs.Promised.{goldens_keep_their_promises}
use Rattle.sources.proofs.Beside.{beside_located}
use Rattle.sources.proofs.Repaired.{repaired_told}
use Rattle.promises.specs.Requests.{Requests}

pub requests_promised : Requests
requests_promised =
    record {
      exception_tables = exception_tables_keep_their_promises;
      pieces = pieces_keep_their_promises;
      repair = salvage-keeps_its_promises;
      join = join-keeps_its_promises;
      line = line-keeps_its_promises;
      row-starts = starts_keep_their_promises;
      spans = spans_keep_their_promises;
      moves = moves_keep_their_promises;
      appends = appends_keep_their_promises;
      inputs = inputs_keep_their_promises;
      totals = totals_keep_their_promises;
      printed_totals = printed_totals_keep_their_promises;
      tagged_fields = fields_keep_their_promises;
      settings = settings_keep_their_promises;
      editions = editions_keep_their_promises;
      goldens = goldens_keep_their_promises;
      sources = beside_located;
      sources_repaired = repaired_told;
    }
