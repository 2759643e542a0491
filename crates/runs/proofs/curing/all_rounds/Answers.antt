use Rattle.std.proofs.Common.{ℕ, rules, ◌≡◌, ◌≢◌, ◌∙◌, sym, ap, subst, List, [], length, vec_len, string_bytes, ◌++◌}
use Rattle.losses.specs.declared.flushes.window.Window.{Window}
use Rattle.losses.specs.Places.{AreWindows}
use Rattle.losses.specs.FailureWindows.{windows_in, HoldNoFlush}
use Rattle.runs.proofs.Leading.{trying_first, trying_more, trying_past, trying_end, none_left}
use Rattle.runs.proofs.Tried.{run_refused, past_of}
use Rattle.runs.proofs.curing.all_rounds.Goals as goal

pub loop-alloc-init : goal.loop-alloc-init
loop-alloc-init g c =
    trying_first c.args.judges.now.losses c.args.judges.now.options.now c.args.judges.now.checkers.now c.args.first.log (string_bytes c.args.out.now) c.args.first.found.failures.items
    (string_bytes c.args.first.found.last) c.in_ok-windows.windows.items c.requires.log c.requires.device c.requires.found (c.in_ok-windows.ensures ∙ ap windows_in c.as_slice.ensures.value)

pub next_log-requires-clause-inside : goal.next_log-requires-clause-inside
next_log-requires-clause-inside g c =
    subst (λ (ws : List Window). AreWindows (length c.loop-alloc.log.entries) ws) (sym (c.as_slice-in-loop-alloc.ensures.value ∙ c.loop-alloc.invariant.windows))
    c.loop-alloc.invariant.found.1.inside

pub next_log-requires-clause-calm : goal.next_log-requires-clause-calm
next_log-requires-clause-calm g c =
    subst (λ (ws : List Window). HoldNoFlush c.loop-alloc.log.entries ws) (sym (c.as_slice-in-loop-alloc.ensures.value ∙ c.loop-alloc.invariant.windows))
    c.loop-alloc.invariant.found.1.calm

pub end_refused-requires : goal.end_refused-requires
end_refused-requires g c =
    run_refused c.args.judges.now.losses c.args.judges.now.options.now c.args.judges.now.checkers.now c.in_ok-added.added.log c.in-Err.refusal c.requires.whole c.in-Err.ensures.refused

pub returns-in-Err : goal.returns-in-Err
returns-in-Err g c =
    let some : c.as_slice-in-loop-alloc.result.now ≢ [] = search rules in
    record {
      told = trying_past _ _ _ _ _ _ (string_bytes c.next_log.new.out) (string_bytes c.end_refused.new.out) _ _ c.in_ok-added.added.log _ _ _ c.as_slice-in-loop-alloc.result.now
          c.in_ok-added.added.flushes.items c.in-Err.refusal.at c.loop-alloc.invariant some c.as_slice-in-loop-alloc.ensures.value c.in_ok-added.ensures.missing
          c.in_ok-added.ensures.log c.in_ok-added.ensures.told
          (past_of c.args.judges.now.losses c.args.judges.now.options.now c.args.judges.now.checkers.now c.in_ok-added.added.log c.in-Err.refusal c.requires.whole c.in-Err.ensures.refused
          c.in_ok-end_refused-in-Err.ensures.cause)
          c.in_ok-end_refused-in-Err.ensures.told;
    }

pub loop-alloc-preserved : goal.loop-alloc-preserved
loop-alloc-preserved g c =
    let some : c.as_slice-in-loop-alloc.result.now ≢ [] = search rules in
    trying_more _ _ _ _ _ _ (string_bytes c.next_log.new.out) _ _ c.in_ok-added.added.log _ c.in-Ok.made.found.failures.items _ (string_bytes c.in-Ok.made.found.last) _
    c.in_ok-windows-2.windows.items c.as_slice-in-loop-alloc.result.now c.in_ok-added.added.flushes.items c.loop-alloc.invariant some c.as_slice-in-loop-alloc.ensures.value
    c.in_ok-added.ensures.missing c.in_ok-added.ensures.log c.in_ok-added.ensures.fewer c.in_ok-added.ensures.told (c.in-Ok.made.begin.items, c.in-Ok.ensures.found)
    (c.in_ok-windows-2.ensures ∙ ap windows_in c.as_slice-in-loop-alloc-2.ensures.value)

pub returns : goal.returns
returns g c =
    let long : vec_len c.loop-alloc.windows ≡ length c.loop-alloc.windows.items = search rules in
    record {
      told = trying_end _ _ _ _ _ _ (string_bytes c.push_str.new.self) _ _ c.loop-alloc.found.failures.items (string_bytes c.loop-alloc.found.last) c.loop-alloc.windows.items
          c.loop-alloc.invariant (none_left c.loop-alloc.windows.items _ _ c.is_empty.ensures c.loop-alloc-test.false long)
          (c.in_ok-push_str.ensures.bytes ∙ ap (λ (xs : List ℕ). string_bytes c.loop-alloc.out ++ xs) c.as_str.ensures.value);
    }
