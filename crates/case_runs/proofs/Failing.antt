-- The images of the failing cases that were found.
use Rattle.std.proofs.Common.{ℕ, zero, suc, ◌≡◌, ◌+◌, Bool, true, false, if◌then◌else◌, List, [], ◌∷◌, ◌++◌, length, map, slice_get, Option, None, Some, refl, sym, subst, ◌∙◌, ap, arith}
use Rattle.std.proofs.lemmas.Bool.{eq-eqb}
use Rattle.std.proofs.lemmas.List.Elements.{All-get_or}
use Rattle.std.specs.Option.{option_map}
use Rattle.std.proofs.lemmas.Option.{same_Some, slice_get_past, slice_get_within, slice_get-map, get_or_from_slice_get}
use Rattle.machine.specs.Outcome.{OutOfSteps, fails}
use Rattle.checker.specs.Checker.{judgement}
use Rattle.images.specs.Views.{context_at}
use Rattle.cases.specs.Choices.{image_at}
use Rattle.cases.specs.Cases.{Case, representative}
use Rattle.cases.specs.Trees.{Subject, ending_of as ending_at}
use Rattle.cases.specs.Laws.{Includes, LeavesEndAlike}
use Rattle.cases.specs.AtCut.{CutValue, parts_of, case_of}
use Rattle.cases.specs.Search.{LeafValue, leaf_case, EndsSo}
use Rattle.losses.specs.FoundCases.{FailingValue, failing_value}
use Rattle.case_runs.specs.Leaves.{failing_from}
use Rattle.case_runs.specs.Laws.{CheckersTell, subject_at}
use Rattle.case_runs.specs.Found.{IsFoundAt, TheirImagesFail}
use Rattle.case_runs.proofs.Judged.{length_image}

-- a leaf that fails is one of the leaves
pub record IsLeafAt (leaves : List LeafValue) (v : FailingValue) : Type 0 where
  pub place : ℕ
  pub leaf : LeafValue
  pub there : slice_get leaves place ≡ Some leaf
  pub sets : v.sets ≡ leaf.sets
  pub ending : v.ending ≡ leaf.ending
  pub failed : fails leaf.ending ≡ true

pub failing_leaf : (n : ℕ) (leaves : List LeafValue) (m : ℕ) (v : FailingValue) → slice_get (failing_from n leaves) m ≡ Some v → IsLeafAt leaves v
failing_leaf n [] m v there = absurd (let bad : ◌≡◌ {A = Option FailingValue} None (Some v) = sym (slice_get_past {X = FailingValue} [] m (omega arith)) ∙ there in cc)
failing_leaf n (leaf ∷ leaves) m v there = by_fails (λ i own. failing_leaf (n + 1) leaves i v own) (fails leaf.ending) refl m there
  where
    later : IsLeafAt leaves v → IsLeafAt (leaf ∷ leaves) v
    later it = record { place = suc it.place; leaf = it.leaf; there = it.there; sets = it.sets; ending = it.ending; failed = it.failed }

    by_fails : ((i : ℕ) → slice_get (failing_from (n + 1) leaves) i ≡ Some v → IsLeafAt leaves v) → (b : Bool) → fails leaf.ending ≡ b → (i : ℕ)
        → slice_get ((if b then record { number = n; ending = leaf.ending; sets = leaf.sets } ∷ [] else []) ++ failing_from (n + 1) leaves) i ≡ Some v → IsLeafAt (leaf ∷ leaves) v
    by_fails rest true is zero own =
        let same : ◌≡◌ {A = FailingValue} (record { number = n; ending = leaf.ending; sets = leaf.sets }) v = same_Some _ v own in
        record {
          place = 0;
          leaf = leaf;
          there = refl;
          sets = sym (ap (λ (w : FailingValue). w.sets) same);
          ending = sym (ap (λ (w : FailingValue). w.ending) same);
          failed = is;
        }
    by_fails rest true is (suc i) own = later (rest i own)
    by_fails rest false is i own = later (rest i own)

pub their_images_told : CheckersTell → LeavesEndAlike → TheirImagesFail
their_images_told tell ends asked log way cuts checkers found is are i j n k f checker own it choice within cut_at found_at checker_at own_at it_at includes = (
  sym first ∙ alike ∙ sym leaf_ends ∙ sym leaf.ending,
  ap fails leaf.ending ∙ leaf.failed,
)
  where
    at : CutValue
    at = record { log = log; way = way; cut = k }

    s : Subject
    s = subject_at log way k checker asked.torn asked.lost

    here : IsFoundAt asked at checker own
    here = (are.each i k f cut_at found_at).each j checker own checker_at own_at

    leaf : IsLeafAt here.leaves (failing_value it)
    leaf =
        failing_leaf 0 here.leaves n (failing_value it)
        (sym (ap (λ fs. slice_get fs n) here.failing) ∙ slice_get-map failing_value own.failing.items n ∙ ap (option_map failing_value) it_at)

    told_at : slice_get here.those.told leaf.place ≡ Some leaf.leaf
    told_at = ap (λ ls. slice_get ls leaf.place) (sym here.those.added) ∙ leaf.there

    c : Case
    c = leaf_case asked.tears at leaf.leaf

    case_at : slice_get (map (leaf_case asked.tears at) here.those.told) leaf.place ≡ Some c
    case_at = slice_get-map (leaf_case asked.tears at) here.those.told leaf.place ∙ ap (option_map (leaf_case asked.tears at)) told_at

    alike : ending_at s choice ≡ ending_at s (representative c)
    alike =
        ends s asked.tears (map (leaf_case asked.tears at) here.those.told) here.those.left leaf.place c choice is within (tell checker (context_at log k)) here.those.are case_at
        (subst (λ (ss : List ℕ). Includes choice (case_of asked.tears (parts_of at) ss)) leaf.sets includes)

    leaf_ends : leaf.leaf.ending ≡ ending_at s (representative c)
    leaf_ends =
        subst (EndsSo s asked.tears at) (get_or_from_slice_get here.those.told leaf.place leaf.leaf leaf.leaf told_at)
        (All-get_or (EndsSo s asked.tears at) here.those.told leaf.place leaf.leaf (slice_get_within here.those.told leaf.place leaf.leaf told_at) here.those.endings)

    first : ending_at s choice ≡ judgement checker (image_at log way k choice) (context_at log k)
    first =
        ap (λ b. if b then judgement checker (image_at log way k choice) (context_at log k) else OutOfSteps)
        (eq-eqb (length (image_at log way k choice)) log.sectors (length_image log way k choice))
