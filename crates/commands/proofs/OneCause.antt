-- What fails at each cut, of given images, is one.
use Rattle.std.proofs.Common.{ℕ, ◌≡◌, List, length, map, Some, sym, ◌∙◌, ap, subst}
use Rattle.choices.specs.Choices.{ranked_at}
use Rattle.choices.specs.Sums.{StartsValue}
use Rattle.losses.specs.Folded.{AreFolded}
use Rattle.losses.proofs.Folds.{stands_under_one}
use Rattle.losses.specs.declared.why.group.FailingGroup.{FailingGroup}
use Rattle.losses.specs.declared.why.cut.CutFailures.{CutFailures}
use Rattle.losses.specs.CountedGroups.{groups_of, AreGrouped}
use Rattle.losses.specs.Failures.{first_at, failing_before, failing_at, numbers_in, IsCut, AreCuts}
use Rattle.commands.proofs.Alike.{AreAlike, alike, same_list}

-- cuts with the same numbers and the same groups
pub record SameCut (c d : CutFailures) : Type 0 where
  pub cut : c.cut ≡ d.cut
  pub images : c.images ≡ d.images
  pub failing : c.failing ≡ d.failing
  pub groups : c.groups.items ≡ d.groups.items

one_folding : (cs : List (List ℕ)) (gs hs : List ℕ) → AreFolded cs gs → AreFolded cs hs → gs ≡ hs
one_folding cs gs hs a b =
    same_list gs hs
    (alike (λ (g h : ℕ). g ≡ h) gs hs (a.each_once ∙ sym b.each_once) (λ i g h p q. stands_under_one cs i g h (a.each i g p) (b.each i h q)))

same_groups : (outcomes : List (List ℕ)) (begin : ℕ) (images : List ℕ) (cs ds : List (List ℕ)) (gs hs : List FailingGroup) → cs ≡ ds → AreGrouped outcomes begin images cs gs
    → AreGrouped outcomes begin images ds hs → gs ≡ hs
same_groups outcomes begin images cs ds gs hs same a other =
    let b : AreGrouped outcomes begin images cs hs = subst (λ (x : List (List ℕ)). AreGrouped outcomes begin images x hs) (sym same) other in
    a.listed ∙ ap (groups_of outcomes begin images) (one_folding cs a.places b.places a.folded b.folded) ∙ sym b.listed

same_cut : (s : StartsValue) (images : List ℕ) (outcomes : List (List ℕ)) (place : ℕ) (c d : CutFailures) → IsCut s images outcomes place c → IsCut s images outcomes place d → SameCut c d
same_cut s images outcomes place c d a b =
    let found : Some c.cut ≡ Some d.cut = sym a.wanted ∙ b.wanted in
    let cut : c.cut ≡ d.cut = cc in
    let own : List ℕ = failing_at s images place in
    record {
      cut = cut;
      images = a.images ∙ ap (λ k. length (ranked_at s.plan s.bound s.tears k)) cut ∙ sym b.images;
      failing = a.fails ∙ sym b.fails;
      groups = same_groups outcomes (failing_before s images place) own (map (numbers_in s c.cut (first_at s place)) own) (map (numbers_in s d.cut (first_at s place)) own) c.groups.items d.groups.items
          (ap (λ k. map (numbers_in s k (first_at s place)) own) cut) a.grouped b.grouped;
    }

pub same_cuts : (s : StartsValue) (images : List ℕ) (outcomes : List (List ℕ)) (cs ds : List CutFailures) → AreCuts s images outcomes cs → AreCuts s images outcomes ds → AreAlike SameCut cs ds
same_cuts s images outcomes cs ds a b =
    alike SameCut cs ds (a.all ∙ sym b.all) (λ place c d p q. same_cut s images outcomes place c d (a.each place c p) (b.each place d q))
