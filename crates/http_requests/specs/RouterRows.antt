-- Defines the router's rows for the forms of paths, and the route for a match.
use Rattle.std.specs.Prelude.{ℕ, List, [], ◌∷◌, ◌++◌, codes, Option, option_and_then, option_map}
use Rattle.http_requests.specs.declared.route.Form.{Form}
use Rattle.http_requests.specs.declared.route.Form.TheVariants as form
use Rattle.http_requests.specs.declared.route.Route.{Route as Target}
use Rattle.http_requests.specs.declared.route.Route.TheVariants as target
use Rattle.matchit.specs.declared.params.Params.{Params}
use Rattle.matchit.specs.Params.{named, walk}
use Rattle.matchit.specs.Router.{RouteOf}
use Rattle.matchit.specs.Rows.{RowsOf}
use Rattle.http_requests.specs.Routes.{Route, Job, Import, Batch, Report, Blanks}

-- the route that a `Route` of the code represents
abbrev pub shown : Target → Route
shown (target.Job client number) = Job client.now number.now
shown (target.Import path) = Import path.client.now path.number.now path.batch.now path.product.now
shown (target.Batch batch) = Batch batch.now
shown (target.Report batch) = Report batch.now
shown (target.Blanks product) = Blanks product.now

-- the names and values of the parameters of a match
abbrev pub taken : Params → List (List ℕ × List ℕ)
taken params = walk params.pattern.now params.text.now params.path.now params.names.now 0 0

-- the route of this form, with these names and values of parameters
abbrev pub built : Form → List (List ℕ × List ℕ) → Option Route
built form.Job taken = option_and_then (λ client. option_map (λ number. Job client number) (named (codes "number") taken)) (named (codes "client") taken)
built form.Import taken =
    option_and_then (λ client. option_and_then (λ number. option_and_then (λ batch.
    option_map (λ product. Import client number batch product) (named (codes "product") taken))
    (named (codes "batch") taken)) (named (codes "number") taken)) (named (codes "client") taken)
built form.Batch taken = option_map (λ batch. Batch batch) (named (codes "batch") taken)
built form.Report taken = option_map (λ batch. Report batch) (named (codes "batch") taken)
built form.Blanks taken = option_map (λ product. Blanks product) (named (codes "product") taken)

-- the row of the router for a form
abbrev pub kept_as : List ℕ → List ℕ → List (ℕ × ℕ) → Form → RouteOf Form
kept_as pattern text names form = record { pattern = pattern; text = text; names = names; value = form }

abbrev pub job_form : RouteOf Form
job_form = kept_as (codes "/c/" ++ 256 ∷ codes "/" ++ 256 ∷ []) (codes "/c/{client}/{number}") ((4, 10) ∷ (13, 19) ∷ []) form.Job

abbrev pub import_form : RouteOf Form
import_form =
    kept_as (codes "/c/" ++ 256 ∷ codes "/" ++ 256 ∷ codes "/batch/" ++ 256 ∷ codes "/" ++ 256 ∷ []) (codes "/c/{client}/{number}/batch/{batch}/{product}")
    ((4, 10) ∷ (13, 19) ∷ (28, 33) ∷ (36, 43) ∷ []) form.Import

abbrev pub batch_form : RouteOf Form
batch_form = kept_as (codes "/batch/" ++ 256 ∷ []) (codes "/batch/{batch}") ((8, 13) ∷ []) form.Batch

abbrev pub report_form : RouteOf Form
report_form = kept_as (codes "/batch/" ++ 256 ∷ codes "/report") (codes "/batch/{batch}/report") ((8, 13) ∷ []) form.Report

abbrev pub blanks_form : RouteOf Form
blanks_form = kept_as (codes "/blanks/" ++ 256 ∷ []) (codes "/blanks/{product}") ((9, 16) ∷ []) form.Blanks

-- the rows of the router, in its order
abbrev pub forms : RowsOf (RouteOf Form)
forms =
    (report_form.pattern, report_form) ∷ (batch_form.pattern, batch_form) ∷ (blanks_form.pattern, blanks_form)
    ∷ (import_form.pattern, import_form) ∷ (job_form.pattern, job_form) ∷ []
