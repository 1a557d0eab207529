-- What contracts see of a worker.
use Rattle.std.specs.Prelude.{◌≡◌, ◌≢◌, ℕ, ◌+◌, ◌<◌, ◌≤◌, true, Option, Some, None, List, [], ◌∷◌, ◌++◌, length, slice_index_or, All}
use Rattle.lmt_network.specs.Network.{NetworkParts}
use Rattle.edge_marks.specs.declared.view.Made.{Made}
use Rattle.edge_marks.specs.declared.view.Made.TheVariants.{Load}
use Rattle.edge_marks.specs.declared.view.Known.{Known}
use Rattle.edge_marks.specs.Handles.{SeatView, MarksView, IsSameSeat, Belongs}
use Rattle.edge_marks.specs.Told.{Remembers}
use Rattle.edge_marks.specs.Words.{begun_word, finished_word}
use Rattle.steal_workers.specs.declared.answer.RunEnd.{RunEnd}
use Rattle.steal_workers.specs.declared.answer.RunEnd.TheVariants.{Quiet, InFlight}

-- a worker: its number, its seat at the marks, how many tasks it has stolen, and how its last run ended
pub record WorkerView : Type 0 where
  pub number : ℕ
  pub seat : SeatView
  pub stolen : ℕ
  pub end : Option RunEnd

abbrev pub worker : ℕ → SeatView → ℕ → Option RunEnd → WorkerView
worker k s t r = record { number = k; seat = s; stolen = t; end = r }

-- where a worker has its tasks from: how many edges there are, below which each task is, and how many tasks were stolen
pub record SupplyView : Type 0 where
  pub edges : ℕ
  pub stolen : ℕ

abbrev pub supply : ℕ → ℕ → SupplyView
supply n t = record { edges = n; stolen = t }

-- the two loads of the counters
abbrev pub loads_of_counters : Known → ℕ → ℕ → List Made
loads_of_counters d b f = Load (begun_word d.net) b ∷ Load (finished_word d.net) f ∷ []

-- What the end of a run means, of what the seat knows: it is settled, or the last two steps of the seat are a load of `begun`
-- and a load of `finished` that gave these two numbers, which differ.
abbrev pub EndHolds : Known → RunEnd → Type 0
EndHolds d Quiet = d.settled ≡ true
EndHolds d (InFlight b f) = (b ≢ f) × (before : List Made) × (d.steps ≡ before ++ loads_of_counters d b f)

-- The same of a run that began with the view d and ended with d', where the two loads were made in that run.
abbrev pub EndsRun : Known → Known → RunEnd → Type 0
EndsRun d d' Quiet = d'.settled ≡ true
EndsRun d d' (InFlight b f) = (b ≢ f) × (made : List Made) × (d'.steps ≡ d.steps ++ (made ++ loads_of_counters d' b f))

-- the worker was run, and how that ended is what its seat shows
pub record HasEnded (w : WorkerView) : Type 0 where
  pub answer : RunEnd
  pub end_is : w.end ≡ Some answer
  pub holds : EndHolds w.seat.known answer

-- All workers have ended, each at the marks m, which were opened over the network n with a seat for each worker and one more.
pub record HaveEndedAt (n : NetworkParts) (workers : ℕ) (ws : List WorkerView) (m : MarksView) : Type 0 where
  pub net_is : m.net ≡ n
  pub seats_are : m.seats ≡ workers + 1
  pub each : All (λ w. HasEnded w × Belongs m w.seat) ws

-- What a worker keeps while it looks at edges, of its seat before and after.
pub record LooksOn (m : MarksView) (s t : SeatView) : Type 0 where
  pub seat : IsSameSeat s t
  pub belongs : Belongs m t
  pub kept : Remembers s.known t.known
  pub low : t.known.low ≡ s.known.low

-- What a worker keeps while it works, of its seat and of its supply of tasks, each before and after.
pub record GoesOn (m : MarksView) (s t : SeatView) (x y : SupplyView) : Type 0 where
  pub seat : IsSameSeat s t
  pub belongs : Belongs m t
  pub kept : Remembers s.known t.known
  pub edges : y.edges ≡ x.edges
  pub stolen : x.stolen ≤ y.stolen

-- The workers of a team at these marks: the one at place k has the number k, a seat that belongs to the marks, has made no
-- step and has tried no edge, and was not run.
pub record IsRecruit (m : MarksView) (k : ℕ) (w : WorkerView) : Type 0 where
  pub number : w.number ≡ k
  pub belongs : Belongs m w.seat
  pub blank : w.seat.known.steps ≡ []
  pub untried : w.seat.known.tried ≡ []
  pub unrun : w.end ≡ None
  pub none_stolen : w.stolen ≡ 0

abbrev pub AreTeam : MarksView → List WorkerView → Type 0
AreTeam m ws = (k : ℕ) (d : WorkerView) → k < length ws → IsRecruit m k (slice_index_or ws k d)
