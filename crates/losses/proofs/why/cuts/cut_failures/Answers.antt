use Rattle.std.proofs.Common.{ℕ, List, ◌≡◌, ◌∙◌, ◌<◌, length, map, filter, slice_get, Some, sym, ap, subst, arith}
use Rattle.losses.specs.CountedGroups.{AreGrouped, groups_of}
use Rattle.losses.specs.Failures.{numbers_in, is_below, is_between, first_at, failing_before, failing_at}
use Rattle.losses.proofs.Between.{of_cut}
use Rattle.losses.proofs.Ordered.{place_within}
use Rattle.losses.proofs.why.cuts.cut_failures.Goals as goal

pub between-begin-requires-clause-rising : goal.between-begin-requires-clause-rising
between-begin-requires-clause-rising c = let own = c.range_of-first.ensures.own c.args.cut c.requires.wanted in omega (arith, own)

pub overflow_sub-result : goal.overflow_sub-result
overflow_sub-result c = let own = c.range_of-first.ensures.own c.args.cut c.requires.wanted in omega (arith, own)

pub examples_of-requires-clause-images : goal.examples_of-requires-clause-images
examples_of-requires-clause-images c =
    of_cut c.args.starts.now c.args.failing.now c.between-begin.result.1.now c.args.cut c.range_of-first.result.0 c.range_of-first.result.1 c.requires.failing
    c.between-begin.ensures.own (c.range_of-first.ensures.own c.args.cut c.requires.wanted)

pub groups_of-requires-clause-places : goal.groups_of-requires-clause-places
groups_of-requires-clause-places c =
    subst (λ (ps : List ℕ). (i place : ℕ) → slice_get ps i ≡ Some place → place < length ps) (sym c.as_slice.ensures.value)
    (λ i place at. place_within _ _ c.in_ok-places.ensures i place at)

pub returns : goal.returns
returns c =
    let s = c.args.starts.now in
    let fails : List ℕ = c.args.failing.now in
    let outs : List (List ℕ) = map (λ o. o.now) c.args.outcomes.now in
    let begin : ℕ = c.between-begin.result.0 in
    let mine : List ℕ = c.between-begin.result.1.now in
    let own = c.range_of-first.ensures.own c.args.cut c.requires.wanted in
    let images : mine ≡ failing_at s fails c.args.place =
    c.between-begin.ensures.own
    ∙ ap (λ (a : ℕ). filter (is_between a c.range_of-first.result.1) fails) c.range_of-first.ensures.first
    ∙ ap (λ (b : ℕ). filter (is_between (first_at s c.args.place) b) fails) c.range_of-first.ensures.end in
    let before : begin ≡ failing_before s fails c.args.place =
    c.between-begin.ensures.before ∙ ap (λ (a : ℕ). length (filter (is_below a) fails)) c.range_of-first.ensures.first in
    let made : AreGrouped outs begin mine (map (numbers_in s c.args.cut c.range_of-first.result.0) mine) c.in_ok-groups_of.field-0.items = record {
      places = c.in_ok-places.places.items;
      folded = c.in_ok-places.ensures;
      listed = c.in_ok-groups_of.ensures ∙ ap (λ (ps : List ℕ). groups_of outs begin mine ps) c.as_slice.ensures.value;
    } in
    record {
      wanted = c.requires.wanted;
      images = omega (arith, own);
      fails = ap (λ (ns : List ℕ). length ns) images;
      grouped = subst (λ (ns : List ℕ). AreGrouped outs (failing_before s fails c.args.place) ns (map (numbers_in s c.args.cut (first_at s c.args.place)) ns) c.in_ok-groups_of.field-0.items) images
          (subst (λ (a : ℕ). AreGrouped outs (failing_before s fails c.args.place) mine (map (numbers_in s c.args.cut a) mine) c.in_ok-groups_of.field-0.items) c.range_of-first.ensures.first
          (subst (λ (b : ℕ). AreGrouped outs b mine (map (numbers_in s c.args.cut c.range_of-first.result.0) mine) c.in_ok-groups_of.field-0.items) before made));
    }
