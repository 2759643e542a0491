use Rattle.std.proofs.Common.{◌≤◌, Bool, length, Some, None, ap, subst}
use Rattle.std.specs.Prelude.{OnOk, if◌then◌else◌}
use Rattle.workers.specs.Failing.{Subject}
use Rattle.workers.specs.Local.{ReuseValue}
use Rattle.workers.proofs.Keeping.{begun_true}
use Rattle.workers.proofs.Stretching.{place_fits}
use Rattle.workers.proofs.reuse.Reuse.begin.Goals as goal

pub images_at-few-requires : goal.images_at-few-requires
images_at-few-requires c = place_fits c.args.input.now c.args.picked.now c.place-2.result c.place-2.ensures c.requires.member

pub returns-clause-known : goal.returns-clause-known
returns-clause-known c =
    begun_true c.args.input.now c.args.self.now _ c.place.result c.empty_entries.result c.requires.known (ap (λ (r : ReuseValue). r.next) c.self.view_is)
    (ap (λ (b : Bool). if b then Some c.place.result else None) c.is_ok-self-inside.ensures.value) c.empty_entries.ensures.empty
    (subst (λ (s : Subject). OnOk c.empty_entries.result (length s.checkers ≤ length c.empty_entries.new.entries.items)) c.input.view_is c.empty_entries.ensures.enough)
