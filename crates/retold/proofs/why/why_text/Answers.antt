use Rattle.std.proofs.Common.{ℕ, ◌≡◌, List, ap, map, sym, subst, [], rules, string_bytes, Vec, Global}
use Rattle.losses.specs.declared.flushes.counted.MissingFlush.{MissingFlush}
use Rattle.losses.specs.declared.cure.failure.Failure.{Failure}
use Rattle.join.specs.Given.{line_told}
use Rattle.join.specs.GivenReading.{given_told}
use Rattle.retold.specs.Told.{AreMissingFor}
use Rattle.retold.proofs.Tellings.{opening_is, why_told}
use Rattle.retold.proofs.why.why_text.Goals as goal

pub returns : goal.returns
returns c =
    let subject = c.args.subject.now in
    let ts = map line_told subject.lines.now in
    let found = c.in_ok-missing.missing in
    let none : string_bytes c.new-out.result ≡ [] = search rules in
    let own = subst (λ (ms : List MissingFlush). AreMissingFor subject.starts.now ts found.failures.items ms) (sym c.as_slice-flushes.ensures.value) c.in_ok-missing.ensures in
    let are = subst (λ (fs : List Failure). AreMissingFor subject.starts.now ts fs c.as_slice-flushes.result.now) (sym c.as_slice-failures.ensures.value) own in
    why_told subject.starts.now (given_told c.args.given.now) ts c.as_slice-failures.result.now c.as_slice-flushes.result.now subject.programs _ _ _ _ c.into_bytes.result.items are none
    (opening_is (given_told c.args.given.now) _ _ _ _ c.in_ok-push_str.ensures.bytes c.in_ok-push_str-2.ensures.bytes c.in_ok-push_str-3.ensures.bytes) c.in_ok-put_flushes.ensures c.in_ok-put_all.ensures c.requires.lines c.requires.programs (ap (λ (v : Vec ℕ Global). v.items) c.into_bytes.ensures.value)
