-- The key of a view, from what a view keeps.
use Rattle.std.proofs.Common.{ℕ, ◌≡◌, ◌<◌, ◌≤◌, if◌then◌else◌, List, length, Some, None, sym, ◌∙◌, ap, arith}
use Rattle.std.proofs.lemmas.Bool.{lt-ltb, le-ltb}
use Rattle.helpers.specs.declared.device.Context.{Context}
use Rattle.images.specs.Views.{ViewValue, sectors_of, context_at}
use Rattle.images.specs.Keys.{ChangedValue, base_of, changed_sectors, most_changed, KeyValue, identity_of, key_of}

-- the changed sectors, over another name of the base and of the image
pub has_key : (view : ViewValue) (program : ℕ) (context : Context) (base image : List (List ℕ)) (found : List ChangedValue)
    → context ≡ context_at view.log view.cut → base ≡ base_of view.log view.cut → image ≡ sectors_of view
    → found ≡ changed_sectors base image → length found ≤ most_changed
    → Some (record { program = program; epoch = context.epoch; marks = context.marks; changed = found }) ≡ key_of view program
unfolding key_of
has_key view program context base image found told durable shown is few =
    let all : List ChangedValue = changed_sectors (base_of view.log view.cut) (sectors_of view) in
    let same : found ≡ all = is ∙ ap (λ b. changed_sectors b image) durable ∙ ap (changed_sectors (base_of view.log view.cut)) shown in
    let within : length all ≤ most_changed = omega (arith, few, ap length same) in
    let part : KeyValue = record { program = program; epoch = context.epoch; marks = context.marks; changed = found } in
    let parts : part ≡ identity_of view program =
    λ i. record { program = program; epoch = ap (λ (x : Context). x.epoch) told i; marks = ap (λ (x : Context). x.marks) told i; changed = same i } in
    ap (λ (key : KeyValue). Some key) parts ∙ sym (ap (λ b. if b then None else Some (identity_of view program)) (le-ltb most_changed (length all) within))

-- where too many sectors differ there is no key
pub no_key : (view : ViewValue) (program : ℕ) (base image : List (List ℕ)) → base ≡ base_of view.log view.cut → image ≡ sectors_of view
    → most_changed < length (changed_sectors base image) → None ≡ key_of view program
unfolding key_of
no_key view program base image durable shown many =
    let all : List ChangedValue = changed_sectors (base_of view.log view.cut) (sectors_of view) in
    let same : changed_sectors base image ≡ all = ap (λ b. changed_sectors b image) durable ∙ ap (changed_sectors (base_of view.log view.cut)) shown in
    let past : most_changed < length all = omega (arith, many, ap length same) in
    sym (ap (λ b. if b then None else Some (identity_of view program)) (lt-ltb most_changed (length all) past))
