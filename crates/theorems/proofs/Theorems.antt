-- The theorems hold (specs/Theorems.antt): each is what the lemma files show of plays, written sets, worlds, cleared
-- maps, fills, converted sets, mended ones, surveys and heights. Assumes nothing.
use mathlib.Core.Path.{refl, sym, subst}
use native.Mathlib.Nat.{le_trans}
use Rattle.model.specs.Call.{why_full}
use Rattle.pool.specs.Settle.{Openable}
use Rattle.model.proofs.Cases
use Rattle.model.proofs.Columns
use Rattle.model.proofs.Worked
use Rattle.theorems.specs.Tables.{Cases-hold, Worked-hold, Columns-back}
use Rattle.interval_bit_set.specs.Met.{Measured}
use Rattle.theorems.specs.Theorems.{
  Equal-bytes,
  Room-suffices,
  Equal-pools,
  Framed-wrote,
  Floor-reached,
  Sum-alone,
  Sum-alone-lists,
  Cleared-reads,
  Cleared-once,
  Written-stays,
  Forms-agree,
  Fill-none,
  Fill-full,
  Converted-back,
  Converted-loads,
  Loads-converts,
  Old-reader,
  Mended-right,
  Mended-loads,
  Mended-floor,
  Deepest-shortest,
  Survey-parts,
  Deepest-height,
  Deepest-room,
  Why-smallest,
  Why-none,
  Why-exact,
}
use Rattle.theorems.proofs.Writing.{bytes-few, written_all, written-alike}
use Rattle.theorems.proofs.Plays.{play-alike}
use Rattle.theorems.proofs.Framing.{all-written}
use Rattle.theorems.proofs.Floors.{reaches-floor, mend-reaches-floor}
use Rattle.theorems.proofs.Neighbours.{alike, all-alike}
use Rattle.theorems.proofs.Forms.{met-alike, writes-alike}
use Rattle.theorems.proofs.Clearing
use Rattle.theorems.proofs.Filling.{none-held, all_held}
use Rattle.theorems.proofs.Converting.{convert-back, convert-then-load, load-converts, convert-old-refused, old-refused}
use Rattle.theorems.proofs.Mending.{right-comes-back, outcome-loads, mend-old-refused}
use Rattle.theorems.proofs.Measuring.{list-long, list-is}
use Rattle.theorems.proofs.Surveys.{survey-parted}
use Rattle.theorems.proofs.Stopping.{many-are, rising-are, listed-are, refused-are, fewer-given, none-given, given-none, due-told, due-short}
use Rattle.theorems.proofs.Heights.{list-high, shorter-lower, further-given}
use Rattle.pool.proofs.Heights.{world-lower}

pub equal-bytes : Equal-bytes
equal-bytes e w i v j bs cs W X = written-alike W X

pub framed-wrote : Framed-wrote
framed-wrote w calls out w' out' F = all-written F

pub room-suffices : Room-suffices
room-suffices w i e out v a S l h m =
    let o : Openable w i = record { sound = S; named = l } in
    (_, _, written_all o e (le_trans (bytes-few o e) h) m)

pub equal-pools : Equal-pools
equal-pools w v S T e f =
    play-alike (record { sound = S; sized = refl; held = refl }) (record { sound = T; sized = sym e; held = sym f })

pub floor-reached : Floor-reached
floor-reached w i c a w' r S l m d h e = reaches-floor S i l m d h e

pub sum-alone : Sum-alone
sum-alone w v i c d a b w' v' S T e f g k m n =
    alike i (record { sound = S; sized = refl; held = refl }) (record { sound = T; sized = sym e; held = refl }) f g k m n

pub sum-alone-lists : Sum-alone-lists
sum-alone-lists w v i rs qs w' v' S T e f g B =
    all-alike (record { sound = S; sized = refl; held = refl }) (record { sound = T; sized = sym e; held = refl }) f g B

pub cleared-reads : Cleared-reads
cleared-reads base n bs bs' w i w' c a h m = Clearing.clear-then-read base n bs h m

pub cleared-once : Cleared-once
cleared-once base n bs bs' bs'' c d h g = Clearing.clear-twice base n bs h g

pub written-stays : Written-stays
written-stays w i base n bs bs' a W h = Clearing.written-stays W h

pub forms-agree : Forms-agree
forms-agree = (λ w i base n bs a b w' v' m k. met-alike m k, λ w i base n out r s out' out'' m k. writes-alike m k)

pub fill-none : Fill-none
fill-none w i base n k w' m = none-held m

pub fill-full : Fill-full
fill-full w i base n k w' m = all_held m

pub converted-back : Converted-back
converted-back bs out cs n out₂ ds a b h g l = convert-back bs out h out₂ b g l

pub converted-loads : Converted-loads
converted-loads bs out cs n w i a a₂ w' v' b h m k = convert-then-load bs out h b m k

pub loads-converts : Loads-converts
loads-converts C bs out cs a b L h l = load-converts bs out L h l

pub old-reader : Old-reader
old-reader = (
  λ w i bs W. old-refused W,
  λ bs out cs n h e. convert-old-refused bs out h e,
  λ w i bs out report out' report' n m w' M e. mend-old-refused w i bs out report M e,
)

pub mended-right : Mended-right
mended-right w i bs out report out' report' n m C w' b L M = right-comes-back w i bs out report M b L

pub mended-loads : Mended-loads
mended-loads w i bs out report out' report' n m w' a v' b M k = outcome-loads w i bs out report M k

pub mended-floor : Mended-floor
mended-floor w i bs out report a w' S l m h e = mend-reaches-floor S i l m h e

pub deepest-shortest : Deepest-shortest
deepest-shortest w h out out' n w' m = (list-long m, list-is m, λ v i S named few. world-lower v i h S named few)

pub deepest-height : Deepest-height
deepest-height w i h w' S l small bare = (list-high S l small bare h w', λ rs few s. shorter-lower S l small bare rs w' s h few)

pub deepest-room : Deepest-room
deepest-room w i rs r w' v a S l small bare s room m = further-given S l small bare rs w' s r room m

pub survey-parts : Survey-parts
survey-parts w i row column k out out' n w' m = survey-parted m

pub why-smallest : Why-smallest
why-smallest w ranges out out' n w' d W m =
    (many-are w ranges out W m, rising-are w ranges out W m, listed-are w ranges out W m, refused-are w ranges out W m d, fewer-given w ranges out W m d)

pub why-none : Why-none
why-none w ranges out w' m = none-given w ranges out m

pub why-exact : Why-exact
why-exact w ranges out a w' d h W m = (
  λ e. none-given w ranges out (subst (λ b. Measured w (why_full ranges) out b w') e m),
  given-none w ranges out h W m,
  λ f s. (due-told w ranges out h W m f s d, due-short w ranges out h W m f s d),
)

-- ---- of the plain model alone
pub cases-hold : Cases-hold
cases-hold = Cases.cases-hold

pub worked-hold : Worked-hold
worked-hold = Worked.worked-cases

pub columns-back : Columns-back
columns-back R C bs e = Columns.columns-back R C bs e
