-- The text of an image in its parts.
use Rattle.std.proofs.Common.{ℕ, ◌≡◌, ◌+◌, ◌++◌, List, codes, Some, None, sym, ◌∙◌, ap, append_assoc}
use Rattle.std.specs.Fmt.{decimal}
use Rattle.epochs.specs.declared.part.By.{By}
use Rattle.epochs.specs.Units.{epoch_at, marks_at}
use Rattle.choices.specs.Choices.{ChoiceValue}
use Rattle.choices.specs.declared.choice.Departure.{Departure}
use Rattle.report.specs.ChoiceText.{departures_text}
use Rattle.images.specs.Keys.{ChangedValue}
use Rattle.export.specs.Export.{AskedValue, head_text, told_text, image_text, choice_at, records_at, first_same}
use Rattle.export.specs.Kept.{place_text, new_text, same_text}

grouped : (n c e m rest : List ℕ)
    → (codes "image " ++ n ++ codes " cut " ++ c ++ codes " epoch " ++ e ++ codes " marks " ++ m ++ codes " choice ") ++ rest
    ≡ codes "image " ++ n ++ codes " cut " ++ c ++ codes " epoch " ++ e ++ codes " marks " ++ m ++ codes " choice " ++ rest
grouped n c e m rest = simp append_assoc

pub head_is : (a : AskedValue) (i : ℕ) (choice : ChoiceValue) (number cut epoch marks : ℕ) (by : By) (ds : List Departure)
    → number ≡ a.from + i → cut ≡ choice.cut → epoch ≡ epoch_at a.plan.log.entries cut → marks ≡ marks_at a.plan.log.entries cut → by ≡ a.plan.by → ds ≡ choice.departures
    → place_text number cut epoch marks ++ departures_text by ds ≡ head_text a i choice
unfolding head_text
head_is a i choice number cut epoch marks by ds n c e m b d =
    grouped (decimal number) (decimal cut) (decimal epoch) (decimal marks) (departures_text by ds)
    ∙ ap (λ x. codes "image " ++ decimal x ++ codes " cut " ++ decimal cut ++ codes " epoch " ++ decimal epoch ++ codes " marks " ++ decimal marks ++ codes " choice " ++ departures_text by ds) n
    ∙ ap (λ x. codes "image " ++ decimal (a.from + i) ++ codes " cut " ++ decimal cut ++ codes " epoch " ++ decimal x ++ codes " marks " ++ decimal marks ++ codes " choice " ++ departures_text by ds) e
    ∙ ap (λ x. codes "image " ++ decimal (a.from + i) ++ codes " cut " ++ decimal cut ++ codes " epoch " ++ decimal (epoch_at a.plan.log.entries cut) ++ codes " marks " ++ decimal x ++ codes " choice " ++ departures_text by ds) m
    ∙ ap (λ x. codes "image " ++ decimal (a.from + i) ++ codes " cut " ++ decimal x ++ codes " epoch " ++ decimal (epoch_at a.plan.log.entries x) ++ codes " marks " ++ decimal (marks_at a.plan.log.entries x) ++ codes " choice " ++ departures_text by ds) c
    ∙ ap (λ x. codes "image " ++ decimal (a.from + i) ++ codes " cut " ++ decimal choice.cut ++ codes " epoch " ++ decimal (epoch_at a.plan.log.entries choice.cut) ++ codes " marks " ++ decimal (marks_at a.plan.log.entries choice.cut) ++ codes " choice " ++ departures_text x ds) b
    ∙ ap (λ x. codes "image " ++ decimal (a.from + i) ++ codes " cut " ++ decimal choice.cut ++ codes " epoch " ++ decimal (epoch_at a.plan.log.entries choice.cut) ++ codes " marks " ++ decimal (marks_at a.plan.log.entries choice.cut) ++ codes " choice " ++ departures_text a.plan.by x) d

-- the image is new
pub new_told : (a : AskedValue) (i : ℕ) (head : List ℕ) (sectors : List ChangedValue) → head ≡ head_text a i (choice_at a i) → sectors ≡ records_at a i → first_same a i ≡ None
    → head ++ new_text sectors ≡ image_text a i
unfolding image_text told_text
new_told a i head sectors h s new =
    ap (λ xs. xs ++ new_text sectors) h ∙ ap (λ ss. head_text a i (choice_at a i) ++ new_text ss) s
    ∙ sym (ap (λ o. head_text a i (choice_at a i) ++ told_text a (records_at a i) o) new)

-- the image is the same as another
pub same_told_text : (a : AskedValue) (i j : ℕ) (head : List ℕ) (number : ℕ) → head ≡ head_text a i (choice_at a i) → number ≡ a.from + j → first_same a i ≡ Some j
    → head ++ same_text number ≡ image_text a i
unfolding image_text told_text
same_told_text a i j head number h n same =
    ap (λ xs. xs ++ same_text number) h ∙ ap (λ m. head_text a i (choice_at a i) ++ same_text m) n
    ∙ sym (ap (λ o. head_text a i (choice_at a i) ++ told_text a (records_at a i) o) same)
