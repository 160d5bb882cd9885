-- Preconditions of requests and arrivals: numbers are in their ranges (this project's profile).
use Rattle.std.specs.Prelude.{◌≤◌, ◌<◌, ◌+◌, ◌^◌, ⊤}
use Rattle.store_data.specs.Sequence.{IsProduct}
use Rattle.job_facts.specs.declared.facts.Lot.{Lot}
use Rattle.job_facts.specs.declared.request.Arrival.{Arrival}
use Rattle.job_facts.specs.declared.request.Call.{Call}
use Rattle.job_facts.specs.declared.request.Call.TheVariants.{Job, Release}
use Rattle.job_facts.specs.declared.request.Request.{Request}
use Rattle.job_facts.specs.declared.request.Request.TheVariants as request

-- The lot has 1 to 1,000,000 blanks, and its last serial has at most 18 digits.
pub record IsLotRange (l : Lot) : Type 0 where
  pub least : 1 ≤ l.count
  pub most : l.count ≤ 1000000
  pub range : l.first + l.count ≤ 10 ^ 18

-- The numbers of the request are in their ranges: serials and session numbers have at most 18
-- digits, indices have 32 bits and status words 16.
abbrev pub IsRequest : Request → Type 0
IsRequest (request.Product p) = IsProduct p
IsRequest (request.Lot l) = IsLotRange l
IsRequest (request.Import b p raw) = ⊤
IsRequest (request.Open b blank) = blank < 10 ^ 18
IsRequest (request.Answer s k sw) = (s < 10 ^ 18) × (k < 2 ^ 32) × (sw < 2 ^ 16)
IsRequest (request.Abort s) = s < 10 ^ 18
IsRequest request.Reset = ⊤
IsRequest (request.Discard blank) = blank < 10 ^ 18
IsRequest (request.Remake b r) = ⊤
IsRequest (request.Withdraw b r) = ⊤
IsRequest (request.Close b) = ⊤

abbrev pub IsCall : Call → Type 0
IsCall (Job r) = IsRequest r
IsCall (Release upto) = (1 ≤ upto) × (upto < 10 ^ 18)

-- The request number and the call are in their ranges.
pub record IsArrival (a : Arrival) : Type 0 where
  pub least : 1 ≤ a.number
  pub most : a.number < 10 ^ 18
  pub request : IsCall a.request
