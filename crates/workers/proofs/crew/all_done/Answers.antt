use Rattle.std.proofs.Common.{◌≡◌, ◌∙◌, sym, subst, arith}
use Rattle.std.proofs.lemmas.Option.{get_or_from_slice_get, slice_get_within}
use Rattle.workers.specs.Crew.{IsDone}
use Rattle.workers.specs.declared.crew.WorkerStart.{WorkerStart}
use Rattle.workers.specs.declared.crew.Done.{Done}
use Rattle.workers.proofs.Back.{ok_both, all_given}
use Rattle.workers.proofs.Crossing.{Done-send}
use denote.Exit.{no}
use denote.Param.Send.{param_send, arg_send}
use Rattle.workers.proofs.crew.all_done.Goals as goal

pub map_vec-requires-send-X : goal.map_vec-requires-send-X
map_vec-requires-send-X g c κs within = param_send 2 _ (arg_send _ no _ (Done-send _ g.H.Deal c.type_bounds.send-H))

pub returns : goal.returns
returns g c =
    let s = c.args.input.now in
    let name = c.args.board.now.name in
    ok_both c.map_vec.result _ _ _ c.map_vec.ensures.len c.map_vec.ensures.each
    (λ v len each. all_given s name c.args.jobs.items v.items (omega (arith, len, v.ok, c.args.jobs.ok))
    (λ i j d at_job at_done.
    let given = (each i d (slice_get_within c.args.jobs.items i j at_job)).1 in
    let same_job : given.job ≡ j = sym (given.job_is j) ∙ get_or_from_slice_get c.args.jobs.items i j j at_job in
    let same_done = get_or_from_slice_get v.items i d d at_done in
    subst (λ (one : WorkerStart g.row.H.Denot). IsDone s name one.hand.place d) same_job (subst (λ (one : Done g.row.H.Denot). IsDone s name given.job.hand.place one) same_done given.call.met)))
