-- What fails of each program, part after part.
use Rattle.std.proofs.Common.{ℕ, ◌≡◌, ◌+◌, List, [], ◌∷◌, ◌++◌, length, length-append, slice_get, None, Some, append_assoc, append-nil, refl, sym, ◌∙◌, ap, subst, inl, inr, arith}
use Rattle.base.proofs.Lists.{slice_get_of_push}
use Rattle.epochs.specs.declared.part.By.{By}
use Rattle.choices.specs.Sums.{StartsValue}
use Rattle.losses.specs.declared.why.cut.CutFailures.{CutFailures}
use Rattle.losses.specs.Failures.{AreCuts}
use Rattle.losses.specs.WhyText.{cuts_text}
use Rattle.losses.specs.Causes.{causes_from, TellsProgram, TellsPrograms}

-- the text of one program more
causes_more : (s : StartsValue) (outcomes : ℕ → List (List ℕ)) (n : ℕ) (causes : List (List CutFailures)) (last : List CutFailures)
    → causes_from s outcomes n (causes ++ last ∷ []) ≡ causes_from s outcomes n causes ++ cuts_text s.plan.by s (outcomes (n + length causes)) (n + length causes) last
causes_more s outcomes n [] last =
    let here : n + 0 ≡ n = omega arith in
    append-nil (cuts_text s.plan.by s (outcomes n) n last) ∙ sym (ap (λ (k : ℕ). cuts_text s.plan.by s (outcomes k) k last) here)
causes_more s outcomes n (c ∷ causes) last =
    let on : n + 1 + length causes ≡ n + length (c ∷ causes) = omega arith in
    let own : List ℕ = cuts_text s.plan.by s (outcomes n) n c in
    ap (λ (bs : List ℕ). own ++ bs)
    (causes_more s outcomes (n + 1) causes last ∙ ap (λ (k : ℕ). causes_from s outcomes (n + 1) causes ++ cuts_text s.plan.by s (outcomes k) k last) on)
    ∙ sym (append_assoc own (causes_from s outcomes (n + 1) causes) (cuts_text s.plan.by s (outcomes (n + length (c ∷ causes))) (n + length (c ∷ causes)) last))

pub tells_none : (s : StartsValue) (images : ℕ → List ℕ) (outcomes : ℕ → List (List ℕ)) (old : List ℕ) → TellsPrograms s images outcomes 0 old old
tells_none s images outcomes old =
    record { causes = []; all = refl; each = λ program cuts at. absurd (let bad : None ≡ Some cuts = at in cc); text = sym (append-nil old) }

pub tells_more : (s : StartsValue) (images : ℕ → List ℕ) (outcomes : ℕ → List (List ℕ)) (count : ℕ) (old mid new : List ℕ) → TellsPrograms s images outcomes count old mid
    → TellsProgram s (images count) (outcomes count) count mid new → TellsPrograms s images outcomes (count + 1) old new
tells_more s images outcomes count old mid new was is =
    let all = was.all in
    let last : 0 + length was.causes ≡ count = omega (arith, all) in
    let own : List ℕ = cuts_text s.plan.by s (outcomes count) count is.cuts in
    record {
      causes = was.causes ++ is.cuts ∷ [];
      all = omega (arith, all, length-append was.causes (is.cuts ∷ []));
      each = λ program cuts at. elim (slice_get_of_push was.causes is.cuts program cuts at) [
        | inl there ↦ was.each program cuts there
        | inr here ↦
            let same : program ≡ count = here.0 ∙ all in
            subst (λ (p : ℕ). AreCuts s (images p) (outcomes p) cuts) (sym same) (subst (λ (c : List CutFailures). AreCuts s (images count) (outcomes count) c) (sym here.1) is.is)
      ];
      text = is.text
          ∙ ap (λ (bs : List ℕ). bs ++ own) was.text
          ∙ append_assoc old (causes_from s outcomes 0 was.causes) own
          ∙ ap (λ (bs : List ℕ). old ++ bs)
          (sym (causes_more s outcomes 0 was.causes is.cuts
          ∙ ap (λ (k : ℕ). causes_from s outcomes 0 was.causes ++ cuts_text s.plan.by s (outcomes k) k is.cuts) last));
    }

-- what was appended of the cuts of a program
pub tells_one : (s : StartsValue) (way : By) (images : List ℕ) (outcomes : List (List ℕ)) (program : ℕ) (cuts told : List CutFailures) (old new : List ℕ) → way ≡ s.plan.by → told ≡ cuts
    → AreCuts s images outcomes cuts → new ≡ old ++ cuts_text way s outcomes program told → TellsProgram s images outcomes program old new
tells_one s way images outcomes program cuts told old new kind same are is =
    record { cuts = cuts; is = are; text = is ∙ (λ i. old ++ cuts_text (kind i) s outcomes program (same i)) }

-- the same, of other images and what is said of them
pub tells_as : (s : StartsValue) (images own : List ℕ) (outcomes said : List (List ℕ)) (program : ℕ) (old new : List ℕ) → images ≡ own → outcomes ≡ said
    → TellsProgram s images outcomes program old new → TellsProgram s own said program old new
tells_as s images own outcomes said program old new mine ends tells =
    subst (λ (os : List (List ℕ)). TellsProgram s own os program old new) ends (subst (λ (ns : List ℕ). TellsProgram s ns outcomes program old new) mine tells)
