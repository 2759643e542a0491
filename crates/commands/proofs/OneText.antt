-- Causes that are alike have one text.
use Rattle.std.proofs.Common.{ℕ, ◌≡◌, ◌+◌, ◌==◌, if◌then◌else◌, List, [], ◌∷◌, ◌++◌, length, refl, sym, ◌∙◌, ap, subst}
use Rattle.std.specs.List.{flat_map}
use Rattle.epochs.specs.declared.part.By.{By}
use Rattle.choices.specs.Sums.{StartsValue}
use Rattle.losses.specs.declared.flushes.window.Window.{Window}
use Rattle.losses.specs.Counted.{AreMissing}
use Rattle.report.specs.Line.{FailingLine}
use Rattle.report.specs.Report.{HeadValue}
use Rattle.losses.specs.FailureWindows.{windows_in}
use Rattle.losses.specs.ProgramOutcomes.{outcomes_failing}
use Rattle.losses.specs.declared.why.cut.CutFailures.{CutFailures}
use Rattle.losses.specs.WhyText.{group_line, cut_head, cut_text, cuts_text}
use Rattle.losses.specs.CureText.{missing_text}
use Rattle.losses.specs.Causes.{causes_from}
use Rattle.runs.specs.Why.{images_failing, why_head, why_text, TellsCauses}
use Rattle.commands.proofs.Alike.{AreAlike, alike, same_text}
use Rattle.commands.proofs.OneCause.{SameCut, same_cuts}
use Rattle.commands.proofs.OneMissing.{same_failures, same_missing}

-- the numbers of the first cut, with the groups of the second
abbrev pub with_groups_of : CutFailures → CutFailures → CutFailures
with_groups_of c d = record { cut = c.cut; images = c.images; failing = c.failing; groups = d.groups }

-- what hangs on the numbers and the groups of a cut
pub by_groups : {X : Type 0} (f : CutFailures → X) (c d : CutFailures) → SameCut c d → f c ≡ f (with_groups_of c d) → f c ≡ f d
by_groups f c d h part =
    let cut = h.cut in
    let images = h.images in
    let failing = h.failing in
    let numbers : with_groups_of c d ≡ d = λ i. record { cut = cut i; images = images i; failing = failing i; groups = d.groups } in
    part ∙ ap f numbers

same_lines : (way : By) (s : StartsValue) (outcomes : List (List ℕ)) (program : ℕ) (c d : CutFailures) → SameCut c d
    → cut_text way s outcomes program c ≡ cut_text way s outcomes program d
unfolding cut_head
same_lines way s outcomes program c d h =
    by_groups (cut_text way s outcomes program) c d h
    (ap (λ gs. if c.failing == 0 then [] else cut_head program c ++ flat_map (group_line way s outcomes) gs) h.groups)

same_cause : (s : StartsValue) (outcomes : List (List ℕ)) (program : ℕ) (cs ds : List CutFailures) → AreAlike SameCut cs ds
    → cuts_text s.plan.by s outcomes program cs ≡ cuts_text s.plan.by s outcomes program ds
same_cause s outcomes program cs ds h = same_text SameCut (cut_text s.plan.by s outcomes program) (same_lines s.plan.by s outcomes program) cs ds h

pub same_programs : (s : StartsValue) (outcomes : ℕ → List (List ℕ)) (number : ℕ) (cs ds : List (List CutFailures)) → AreAlike (AreAlike SameCut) cs ds
    → causes_from s outcomes number cs ≡ causes_from s outcomes number ds
same_programs s outcomes number [] [] h = refl
same_programs s outcomes number [] (d ∷ ds) h = absurd h
same_programs s outcomes number (c ∷ cs) [] h = absurd h
same_programs s outcomes number (c ∷ cs) (d ∷ ds) h =
    let first = same_cause s (outcomes number) number c d h.0 in
    let rest = same_programs s outcomes (number + 1) cs ds h.1 in
    λ i. first i ++ rest i

pub one_explanation : (h : HeadValue) (s : StartsValue) (ls : List FailingLine) (bytes others : List ℕ) → TellsCauses h s ls bytes → TellsCauses h s ls others → bytes ≡ others
unfolding why_text
one_explanation h s ls bytes others a b =
    let failures : a.failures ≡ b.failures = same_failures s.plan.by s.plan.log.entries ls a.failures b.failures a.are_missing.failures b.are_missing.failures in
    let windows : windows_in a.failures ≡ windows_in b.failures = ap windows_in failures in
    let missing : a.missing ≡ b.missing =
    same_missing (windows_in a.failures) a.missing b.missing a.are_missing.missing (subst (λ (ws : List Window). AreMissing ws b.missing) (sym windows) b.are_missing.missing) in
    let causes = alike (AreAlike SameCut) a.causes b.causes (a.all ∙ sym b.all)
    (λ program c d p q. same_cuts s (images_failing program ls) (outcomes_failing program ls) c d (a.each program c p) (b.each program d q)) in
    let same = same_programs s (λ program. outcomes_failing program ls) 0 a.causes b.causes causes in
    let text : why_head h ls ++ missing_text (length h.programs) a.failures a.missing ++ causes_from s (λ program. outcomes_failing program ls) 0 a.causes
    ≡ why_head h ls ++ missing_text (length h.programs) b.failures b.missing ++ causes_from s (λ program. outcomes_failing program ls) 0 b.causes =
    λ i. why_head h ls ++ missing_text (length h.programs) (failures i) (missing i) ++ same i in
    a.text ∙ text ∙ sym b.text
