use Rattle.std.proofs.Common.{◌≡◌, ◌∙◌, ◌<◌, ℕ, All, subst, sym}
use Rattle.std.proofs.lemmas.List.{length-map}
use Rattle.std.proofs.lemmas.List.Elements.{All-append}
use Rattle.shares.specs.Owned.{DequeValue}
use Rattle.shares.proofs.Reunion.{apart_count, apart_as_many, apart_one_part, apart_others, all_left, none_left}
use Rattle.shares.proofs.meeting.blocks_left.Goals as goal

pub take_all_back-requires-clause-count : goal.take_all_back-requires-clause-count
take_all_back-requires-clause-count g c =
    sym (length-map c.in_ok-left.field-0.others.items (λ v. v.items)) ∙ apart_as_many g.H.Deal.workers c.args.hands.items _ _ _ c.requires.together c.in_ok-left.ensures.apart

pub take_all_back-requires-clause-one_part : goal.take_all_back-requires-clause-one_part
take_all_back-requires-clause-one_part g c = apart_one_part g.H.Deal.workers c.args.hands.items _ _ _ c.requires.together c.in_ok-left.ensures.apart

pub take_all_back-requires-clause-names : goal.take_all_back-requires-clause-names
take_all_back-requires-clause-names g c = apart_others g.H.Deal.workers c.args.hands.items _ _ _ c.requires.together c.in_ok-left.ensures.apart

pub drain_all-requires : goal.drain_all-requires
drain_all-requires g c =
    let count = apart_count g.H.Deal.workers c.args.hands.items _ _ _ c.requires.together c.in_ok-left.ensures.apart in
    record { parts = subst (λ (n : ℕ). All (λ (d : DequeValue). d.parts ≡ n) c.take_all_back.new.deques.items) count c.take_all_back.ensures.parts }

pub returns-clause-left : goal.returns-clause-left
returns-clause-left g c = all_left g.H.Deal.blocks _ c.args.hands.items _ _ _ _ c.drain_all.new.left.items c.in_ok-left.ensures.apart c.take_all_back.ensures c.in_ok-drain_all.ensures

pub returns-clause-closed : goal.returns-clause-closed
returns-clause-closed g c = λ all.
    none_left g.H.Deal.blocks _ c.args.hands.items _ _ _ _ c.drain_all.new.left.items c.in_ok-left.ensures.apart c.take_all_back.ensures c.in_ok-drain_all.ensures all

pub returns-clause-below : goal.returns-clause-below
returns-clause-below g c =
    let l = c.in_ok-drain_all.ensures in
    subst (All (λ (b : ℕ). b < g.H.Deal.blocks)) (sym l.beyond) (All-append (λ (b : ℕ). b < g.H.Deal.blocks) c.in_ok-left.field-0.left.items l.left c.in_ok-left.ensures.below l.below)
