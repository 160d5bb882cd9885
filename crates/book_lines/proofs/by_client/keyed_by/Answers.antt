use Rattle.book_lines.specs.Keyed.{place_of}
use Rattle.book_lines.proofs.KeyedLemmas.{keyed_of}
use Rattle.book_lines.proofs.by_client.keyed_by.Goals as goal

pub returns : goal.returns
returns g c =
    keyed_of (λ row. place_of c.args.clients.now.names.items (g.T.OfClient.client row)) c.args.rows.now c.in_ok-keyed.keyed.items c.sort_rows.new.rows.items c.in_ok-keyed.ensures
    c.in_ok-sort_rows.ensures.ordered c.sort_rows.ensures.stable
