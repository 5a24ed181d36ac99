-- The hit share of a zone, over its two counts: hits, the starts answered by themselves, and starts, those accepted.
use Rattle.std.specs.Prelude.{ℕ, ◌+◌, ◌*◌, ◌/◌, ◌<◌, ◌≤◌, cond, Some, None, Option, ◌==◌}

-- a quotient as a whole number, halves up
abbrev pub rounded : ℕ → ℕ → ℕ
rounded part whole = (2 * part + whole) / (2 * whole)

-- none before the first start, else the hits in percent of the starts
abbrev pub hit_share : ℕ → ℕ → Option ℕ
hit_share hits starts = cond (starts == 0) None (Some (rounded (100 * hits) starts))

-- twice the distance from the exact percentage is at most one, over whole numbers: |2·share·starts − 2·100·hits| ≤ starts
abbrev pub NearestPercent : ℕ → ℕ → ℕ → Type 0
NearestPercent hits starts share = (2 * share * starts ≤ 2 * 100 * hits + starts) × (2 * 100 * hits ≤ 2 * share * starts + starts)

-- where two whole numbers are equally near, the share is the larger: it lies less than a half below the exact percentage
abbrev pub HalvesUp : ℕ → ℕ → ℕ → Type 0
HalvesUp hits starts share = 2 * 100 * hits < 2 * share * starts + starts
