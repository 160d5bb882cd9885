-- A feed after another try.
use Rattle.std.proofs.Common.{◌≡◌, ℕ, List, [], ◌∷◌, ◌++◌, map, Option, Some, None, Result, Ok, Err, IfOk, IfSome, refl, sym, ap, subst, ◌∙◌, append_assoc, append-nil}
use Rattle.std.specs.Prelude.{option_map}
use Rattle.std.specs.Io.KnownBytes.{Appends}
use Rattle.std.proofs.KnownBytes.{Appends-trans}
use Rattle.std.proofs.lemmas.List.{map_push}
use Rattle.job_facts.specs.declared.reply.Reply.{Reply}
use Rattle.job_facts.specs.declared.request.Call.{Call}
use Rattle.wire.specs.ReplyText.{IsReply, reply_bytes}
use Rattle.text_io.proofs.Pieces.{begun}
use Rattle.text_io.specs.Written.{AppendsBeginning}
use Rattle.feeder.specs.Reading.{IsRead}
use Rattle.feeder.specs.Table.{asked}
use Rattle.feeding.specs.Events.{event_texts, lines_of_try, lines_under}
use Rattle.feeding.specs.Feeds.{Feed, by_reply, counted, hears, settled, tried}
use Rattle.feeding.specs.Views.{AsksUnder}
use Rattle.feeding.specs.Tries.{AreTries, Heard, IsTry, Logs, Try, feed_after, printed}

pub after_more : (f : Feed) (hs : List Heard) (h : Heard) → feed_after f (hs ++ h ∷ []) ≡ hears (feed_after f hs) h.reply
after_more f [] h = refl
after_more f (x ∷ hs) h = after_more (hears f x.reply) hs h

pub tries_more : (f : Feed) (hs : List Heard) (h : Heard) → AreTries f hs → IsTry (feed_after f hs) h → AreTries f (hs ++ h ∷ [])
tries_more f [] h all one = (one, tt)
tries_more f (x ∷ hs) h (first, rest) one = (first, tries_more (hears f x.reply) hs h rest one)

pub printed_more : (f : Feed) (hs : List Heard) (h : Heard) → printed f (hs ++ h ∷ []) ≡ printed f hs ++ (hears (feed_after f hs) h.reply).text
printed_more f [] h = append-nil (hears f h.reply).text
printed_more f (x ∷ hs) h =
    ap (λ t. (hears f x.reply).text ++ t) (printed_more (hears f x.reply) hs h) ∙ sym (append_assoc (hears f x.reply).text (printed (hears f x.reply) hs) _)

-- The event lines of the new try follow those of the earlier tries.
pub texts_more : (f : Feed) (hs : List Heard) (h : Heard) → event_texts f (hs ++ h ∷ []) ≡ event_texts f hs ++ lines_of_try (feed_after f hs) (asked (feed_after f hs).feeder) h
texts_more f [] h = append-nil (lines_of_try f (asked f.feeder) h)
texts_more f (x ∷ hs) h =
    ap (λ t. lines_of_try f (asked f.feeder) x ++ t) (texts_more (hears f x.reply) hs h) ∙ sym (append_assoc (lines_of_try f (asked f.feeder) x) (event_texts (hears f x.reply) hs) _)

pub logs_more : (a b c : Option (List Try)) (hs : List Heard) (h : Heard) → Logs a b hs → c ≡ option_map (λ l. l ++ h.one ∷ []) b → Logs a c (hs ++ h ∷ [])
logs_more None b c hs h is more = more ∙ ap (option_map (λ (l : List Try). l ++ h.one ∷ [])) is
logs_more (Some l) b c hs h is more =
    more ∙ ap (option_map (λ (l : List Try). l ++ h.one ∷ [])) is ∙ ap Some (append_assoc l (map (λ (x : Heard). x.one) hs) (h.one ∷ []) ∙ ap (λ t. l ++ t) (sym (map_push (λ (x : Heard). x.one) hs h)))

-- ---- a known feed after the earlier tries

pub after_on : (f0 f : Feed) (hs : List Heard) (h : Heard) → feed_after f0 hs ≡ f → feed_after f0 (hs ++ h ∷ []) ≡ hears f h.reply
after_on f0 f hs h at = after_more f0 hs h ∙ ap (λ g. hears g h.reply) at

pub tries_on : (f0 f : Feed) (hs : List Heard) (h : Heard) → feed_after f0 hs ≡ f → AreTries f0 hs → IsTry f h → AreTries f0 (hs ++ h ∷ [])
tries_on f0 f hs h at all one = tries_more f0 hs h all (subst (λ g. IsTry g h) (sym at) one)

text_more : (f0 f : Feed) (hs : List Heard) (h : Heard) → feed_after f0 hs ≡ f → printed f0 (hs ++ h ∷ []) ≡ printed f0 hs ++ (hears f h.reply).text
text_more f0 f hs h at = printed_more f0 hs h ∙ ap (λ g. printed f0 hs ++ (hears g h.reply).text) at

pub text_on : (f0 f : Feed) (hs : List Heard) (h : Heard) (a b c : Option (List ℕ)) → feed_after f0 hs ≡ f → Appends a b (printed f0 hs) → Appends b c (hears f h.reply).text → Appends a c (printed f0 (hs ++ h ∷ []))
text_on f0 f hs h a b c at before next = subst (Appends a c) (sym (text_more f0 f hs h at)) (Appends-trans a b c (printed f0 hs) (hears f h.reply).text before next)

pub text_begun : (f0 f : Feed) (hs : List Heard) (h : Heard) (a b c : Option (List ℕ)) → feed_after f0 hs ≡ f → Appends a b (printed f0 hs) → AppendsBeginning b c (hears f h.reply).text
    → AppendsBeginning a c (printed f0 (hs ++ h ∷ []))
text_begun f0 f hs h a b c at before next =
    subst (AppendsBeginning a c) (ap (λ t. printed f0 hs ++ t) (append-nil (hears f h.reply).text) ∙ sym (text_more f0 f hs h at)) (begun a b c (printed f0 hs) (hears f h.reply).text [] before next)

pub texts_on : (f0 f : Feed) (hs : List Heard) (h : Heard) (number : ℕ) (call : Call) → feed_after f0 hs ≡ f → asked f.feeder ≡ Some (number, call)
    → event_texts f0 (hs ++ h ∷ []) ≡ event_texts f0 hs ++ lines_under f number h.one.came h.reply
texts_on f0 f hs h number call at asks = texts_more f0 hs h ∙ ap (λ g. event_texts f0 hs ++ lines_of_try g (asked g.feeder) h) at ∙ ap (λ a. event_texts f0 hs ++ lines_of_try f a h) asks

-- If request `number` is pending, `hears` handles the reply, takes the next card and counts the
-- try.
pub hears_is : (f : Feed) (number : ℕ) (o : Option Reply) → AsksUnder number f → hears f o ≡ counted number (settled (by_reply (record f { text = [] }) number o))
hears_is f number o (call, is) = ap (λ a. tried f a o) is

-- ---- the received bytes

pub reply_read : {E : Type 0} (r : Result (Option Reply) E) (bytes : List ℕ) → IfOk r (λ found. IfSome found (λ q. IsReply q × (bytes ≡ reply_bytes q)))
    → ((q : Reply) → IsReply q → bytes ≡ reply_bytes q → IfOk r (λ found. found ≡ Some q)) → IfOk r (λ found. IsRead bytes found)
reply_read (Err e) bytes is finds = tt
reply_read (Ok (Some q)) bytes is finds = is
reply_read (Ok None) bytes is finds = λ q fits same. let found : None ≡ Some q = finds q fits same in cc
