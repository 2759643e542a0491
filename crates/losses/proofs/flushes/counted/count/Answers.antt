use Rattle.std.proofs.Common.{ℕ, ◌≡◌, ◌+◌, List, [], ◌∷◌, ◌++◌, slice_set, length, slice_index_or, refl, arith, ap, ◌∙◌}
use Rattle.std.specs.Prelude.{max}
use Rattle.losses.specs.declared.flushes.counted.MissingFlush.{MissingFlush}
use Rattle.losses.specs.Counted.{counted_at, greatest_start, missing_at}
use Rattle.losses.proofs.Counting.{length-missing, at-missing, few-counted, missing-more, flush-more}
use Rattle.losses.proofs.flushes.counted.count.Goals as goal

pub index_mut-flush-requires : goal.index_mut-flush-requires
index_mut-flush-requires c =
    let counted = c.requires.counted in
    let long = ap (λ (xs : List MissingFlush). length xs) counted.1 ∙ length-missing counted.0 c.args.places.now in
    let within = c.first_in.ensures.within in
    omega (arith, long, within)

pub overflow_add-flush : goal.overflow_add-flush
overflow_add-flush c =
    let counted = c.requires.counted in
    let ps : List ℕ = c.args.places.now in
    let j : ℕ = c.first_in.result in
    let own : c.index_mut-flush.result.now ≡ missing_at counted.0 ps j =
    c.index_mut-flush.ensures.value ∙ ap (λ (xs : List MissingFlush). slice_index_or xs j c.index_mut-flush.result.now) counted.1
    ∙ at-missing counted.0 ps j c.index_mut-flush.result.now c.first_in.ensures.within in
    let failing = ap (λ (flush : MissingFlush). flush.failing) own in
    let few = few-counted counted.0 ps j in
    let all = counted.2 in
    omega (arith, failing, few, all)

pub returns : goal.returns
returns c =
    λ ws so.
    let ps : List ℕ = c.args.places.now in
    let j : ℕ = c.first_in.result in
    let within = c.first_in.ensures.within in
    let is = c.first_in.ensures.value in
    let own : c.index_mut-flush.result.now ≡ missing_at ws ps j =
    c.index_mut-flush.ensures.value ∙ ap (λ (xs : List MissingFlush). slice_index_or xs j c.index_mut-flush.result.now) so
    ∙ at-missing ws ps j c.index_mut-flush.result.now within in
    let from : c.max-flush.result ≡ max (greatest_start (counted_at ps j ws)) c.args.window.start =
    c.max-flush.ensures ∙ ap (λ (flush : MissingFlush). max flush.from c.args.window.start) own in
    let at : c.index_mut-flush.result.now.at ≡ slice_index_or ps j 0 = ap (λ (flush : MissingFlush). flush.at) own in
    let failing : c.index_mut-flush.result.now.failing ≡ length (counted_at ps j ws) = ap (λ (flush : MissingFlush). flush.failing) own in
    let now : MissingFlush = record { from = c.max-flush.result; at = c.index_mut-flush.result.now.at; failing = c.index_mut-flush.result.now.failing + 1 } in
    let flush : now ≡ missing_at (ws ++ c.args.window ∷ []) ps j =
    (rw (from, at, failing) refl) ∙ flush-more ws ps c.args.window j is in
    ap (λ (xs : List MissingFlush). slice_set xs j now) so ∙ missing-more ws ps c.args.window j now is within flush
