use Rattle.std.proofs.Common.{ℕ, ◌≡◌, ◌+◌, ◌<◌, List, Some, length, slice_get, inl, inr, refl, sym, subst, ◌∙◌, ap, arith}
use Rattle.std.proofs.lemmas.Bool.{cases_lt}
use Rattle.std.proofs.lemmas.Option.{slice_get_read, slice_get_within, same_Some}
use Rattle.choices.specs.declared.choice.Departure.{Departure}
use Rattle.export.specs.Kept.{Spans, IsDeparting}
use Rattle.export.proofs.Listing.{lists_on, lists_less, listed_so_far}
use Rattle.known_runs.proofs.differing.put_departing.Goals as goal

-- one of the first that many departures has a sector
abbrev IsOfFirst : List Departure → ℕ → ℕ → Type 0
IsOfFirst ds i n = (j : ℕ) × (d : Departure) × (j < i) × (slice_get ds j ≡ Some d) × Spans d.part.sector d.part.count n

pub loop-departure-init : goal.loop-departure-init
loop-departure-init c = λ p is. listed_so_far _ _ _ p (IsOfFirst c.args.departures.now 0) is (λ n h. omega (arith, h.2))

pub put_sectors-requires-clause-device : goal.put_sectors-requires-clause-device
put_sectors-requires-clause-device c =
    let there = slice_get_read c.args.departures.now (length c.args.departures.now) c.loop-departure.departure-index c.departure-item.result refl c.loop-departure-test.true c.departure-item.is in
    (c.requires.parts c.loop-departure.departure-index c.departure-item.result there).device

pub loop-departure-preserved : goal.loop-departure-preserved
loop-departure-preserved c = λ p is.
    let ds = c.args.departures.now in
    let i : ℕ = c.loop-departure.departure-index in
    let own : Departure = c.departure-item.result in
    let there : slice_get ds i ≡ Some own = slice_get_read ds (length ds) i own refl c.loop-departure-test.true c.departure-item.is in
    let so = c.loop-departure.invariant p is in
    lists_on _ _ _ _ p (IsOfFirst ds i) (λ n. Spans own.part.sector own.part.count n) (IsOfFirst ds (i + 1)) so (c.in_ok-put_sectors.ensures so.chosen so.is)
    (λ n h. elim (cases_lt h.0 i) [
      | inl before ↦ inl (h.0, h.1, before, h.3, h.4)
      | inr past ↦
          let here : h.0 ≡ i = omega (arith, past, h.2) in
          let same : h.1 ≡ own = same_Some h.1 own (sym h.3 ∙ ap (slice_get ds) here ∙ there) in
          inr (subst (λ (d : Departure). Spans d.part.sector d.part.count n) same h.4)
    ])

pub returns : goal.returns
returns c = λ p is.
    let ds = c.args.departures.now in
    lists_less _ _ _ p (IsOfFirst ds c.loop-departure.departure-index) (IsDeparting ds) (c.loop-departure.invariant p is)
    (λ n h. let within = slice_get_within ds h.0 h.1 h.2 in (h.0, h.1, omega (arith, within, c.loop-departure-test.false), h.2, h.3))
