-- Which share of the images of a cut fails: of it the cells of cuts have their colour, and the legend its words.
use Rattle.std.specs.Prelude.{ℕ, ◌/◌, ◌==◌, nat_le, Bool, if◌then◌else◌, List, [], ◌++◌, codes}
use Rattle.std.specs.Fmt.{decimal}
use Rattle.page_parts.specs.declared.share.Share.{Share}
use Rattle.page_parts.specs.declared.share.Share.TheVariants as share
use Rattle.page_parts.specs.declared.pieces.PagePart.TheVariants as piece
use Rattle.page_parts.specs.Pieces.{piece_text}
use Rattle.page_parts.specs.declared.counts.JudgedKind.{JudgedKind}
use Rattle.page_parts.specs.declared.counts.JudgedKind.TheVariants as kind
use Rattle.page_parts.specs.Counts.{kind_word}

-- a share with a bound is at most one image in that many
abbrev pub one_in : Share → ℕ
one_in share.Hundredth = 100
one_in share.Tenth = 10
one_in share.Half = 2
one_in _ = 1

abbrev pub is_within : ℕ → ℕ → Share → Bool
is_within images failing s = nat_le failing (images / one_in s)

-- the share of that many failing images among those of a cut: none, all, the first bound that holds, or more
abbrev pub share_of : ℕ → ℕ → Share
share_of images failing =
    if failing == 0 then share.No else if nat_le images failing then share.All else if is_within images failing share.Hundredth then share.Hundredth
    else if is_within images failing share.Tenth then share.Tenth else if is_within images failing share.Half then share.Half else share.More

-- the class of a share, which has its colour
unfoldable pub share_class : Share → List ℕ
share_class share.No = codes "s0"
share_class share.Hundredth = codes "s1"
share_class share.Tenth = codes "s2"
share_class share.Half = codes "s3"
share_class share.More = codes "s4"
share_class share.All = codes "s5"

-- and its words
abbrev pub none_words : JudgedKind → List ℕ
none_words kind.Images = codes "no image fails"
none_words kind.Cases = codes "no case fails"

unfoldable pub share_words : JudgedKind → Share → List ℕ
share_words of share.No = none_words of
share_words of share.More = codes "more"
share_words of share.All = codes "all of them"
share_words of s = codes "up to 1 in " ++ decimal (one_in s)

-- a share in the legend
unfoldable pub key_text : JudgedKind → Share → List ℕ
key_text of s = piece_text piece.KeyOpen ++ share_class s ++ piece_text piece.KeyColour ++ share_words of s ++ piece_text piece.KeyClose

unfoldable pub keys_open : JudgedKind → List ℕ
keys_open of = piece_text piece.Legend ++ piece_text piece.LegendRest ++ piece_text piece.KeysOpen ++ kind_word of ++ piece_text piece.KeysClose

unfoldable pub legend_text : JudgedKind → List ℕ
legend_text of =
    keys_open of ++ key_text of share.No ++ key_text of share.Hundredth ++ key_text of share.Tenth ++ key_text of share.Half ++ key_text of share.More
    ++ key_text of share.All ++ piece_text piece.LegendClose
