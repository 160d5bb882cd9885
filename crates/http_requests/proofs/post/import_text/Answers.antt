use Rattle.std.proofs.Common.{rules, ◌≡◌, ℕ, List, subst, sym, true}
use Rattle.std.specs.List.{list_all}
use Rattle.http_messages.specs.RequestHeads.{is_visible}
use Rattle.http_requests.specs.Asks.{import_tail}
use Rattle.http_messages.specs.Messages.{Brings, IsHeardAs}
use Rattle.http_messages.specs.RequestHeads.{posted}
use Rattle.http_requests.specs.Posts.{target_with}
use Rattle.http_requests.proofs.PostLemmas.{import_means, on_made, tail_is_visible}
use Rattle.http_requests.proofs.post.import_text.Goals as goal

pub text_with-requires-clause-seen : goal.text_with-requires-clause-seen
text_with-requires-clause-seen c =
    let names = c.in_ok-push_import_tail.ensures.names in
    let tail : c.deref.result.now ≡ import_tail c.args.batch.now c.args.product.now = search rules in
    subst (λ (t : List ℕ). list_all is_visible t ≡ true) (sym tail) (tail_is_visible c.args.batch.now c.args.product.now names.0 names.1)

pub returns-clause-means : goal.returns-clause-means
returns-clause-means c = λ fits.
    let names = c.in_ok-push_import_tail.ensures.names in
    let b = c.args.batch.now in
    let p = c.args.product.now in
    let tail : c.deref.result.now ≡ import_tail b p = search rules in
    on_made c.text_with.result _ _ _ (c.text_with.ensures.heard fits) c.text_with.ensures.name
    (λ text heard name. import_means c.args.client.now c.args.number b p c.args.raw.now text name names.0 names.1 c.requires.least c.requires.most
    (subst (λ (t : List ℕ). IsHeardAs text (Brings (posted (target_with c.args.client.now c.args.number t) c.args.raw.now))) tail heard))
