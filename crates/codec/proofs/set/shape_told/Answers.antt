-- `shape_told` meets its contract: it makes the tests of a set's shape one by one, in the order of refusals.
-- Assumes nothing.
use Rattle.std.proofs.Common.{◌<◌, ◌≡◌, refl, false, arith, rules}
use Rattle.model.specs.Bytes.{edition_of}
use Rattle.model.specs.Refusals.{bad_version}
use Rattle.codec.proofs.Digits.{count-bound}
use Rattle.codec.proofs.Telling.{told-short, told-version, version-is, told-length, told-shape}
use Rattle.codec.proofs.set.shape_told.Goals as goal
use Rattle.codec.proofs.set.shape_told.Goals.{After-get_count-count, in-1, in-2}

-- the version is 1 or 2, and tells the edition
version : (c : After-get_count-count) → (bad_version c.args.bytes.now ≡ false) × (c.match-bytes.edition ≡ edition_of c.args.bytes.now)
version c = elim c.match-bytes.branch [ in-1 w ↦ version-is _ c.if-bytes-lt5.false _ w.edition-is w.in-1.is | in-2 w ↦ version-is _ c.if-bytes-lt5.false _ w.edition-is w.in-2.is ]

-- the number of runs is below 2^32
few : (c : After-get_count-count) → c.get_count-count.result < 4294967296
few c =
    count-bound c.args.bytes.now 1 c.get_count-count.result c.type_inv.bytes c.get_count-count.ensures

pub returns-then-bytes-lt5 : goal.returns-then-bytes-lt5
returns-then-bytes-lt5 c = told-short _ c.if-bytes-lt5.true

pub returns-in_default : goal.returns-in_default
returns-in_default c = told-version _ c.if-bytes-lt5.false (search rules) (search rules)

pub overflow_mul-count : goal.overflow_mul-count
overflow_mul-count c = omega (arith, few (goal.at.overflow_mul-count c).After-get_count-count)

pub overflow_add-count : goal.overflow_add-count
overflow_add-count c = omega (arith, few (goal.at.overflow_add-count c).After-get_count-count)

pub returns-then-bytes-count : goal.returns-then-bytes-count
returns-then-bytes-count c =
    told-length _ c.if-bytes-lt5.false (version (goal.at.returns-then-bytes-count c).After-get_count-count) c.get_count-count.ensures c.if-bytes-count.true

pub returns : goal.returns
returns c = (refl, told-shape _ c.if-bytes-lt5.false (version (goal.at.returns c).After-get_count-count) c.get_count-count.ensures c.if-bytes-count.false)
