-- `mend` meets its contract: the set's shape is tested first, then the runs of its outcome against the allowance, then the room of both slices;
-- the outcome that was written is read into the world. Assumes nothing.
use Rattle.std.proofs.Common.{◌≡◌, ◌≤◌, length, take, drop, sym, refl, subst, arith}
use Rattle.model.specs.Positions.{held_runs, stretches}
use Rattle.model.specs.Bytes.{runs_told, into_front}
use Rattle.model.specs.Mending.{mended_positions, mended_set, mend_report}
use Rattle.model.proofs.Slices.{all-bytes}
use Rattle.pool.specs.Layout.{allowance}
use Rattle.codec.proofs.Telling.{shaped-tested}
use Rattle.interval_bit_set.specs.Out.{Mendable, Mends}
use Rattle.interval_bit_set.proofs.Passing.{handed-on}
use Rattle.interval_bit_set.proofs.Receiving.{receive-few, receive-ready, receive-closing, receive-settled}
use Rattle.interval_bit_set.proofs.Mending.{allowed-most, room-told, read_again, held-ordered, held-length, held-many, mend-turned, mend-full, mend-short, mend-unreported, mend-done}
use Rattle.interval_bit_set.proofs.mend.put_mended.Goals as goal
use Rattle.interval_bit_set.proofs.mend.put_mended.Goals.{After-in_order-right, After-outcome_runs-k, After-put_outcome, After-open-h, Else-k-allowance}

-- it is known whether the runs that the bytes tell are in order
mendable : (o : After-in_order-right) → Mendable o.in_ok-told.told.bytes.now o.in_ok-told.told.edition o.in_ok-told.told.count o.in_order-right.result
mendable o =
    let sh = o.in_ok-told.ensures in
    rw sh.0 (record { bytes = all-bytes _ o.type_inv.bytes; shaped = sh.1; tested = shaped-tested _ sh.1 (rw sh.0 at o.in_order-right.ensures.value) })

-- the runs of the outcome are counted
counted : (o : After-outcome_runs-k) → o.outcome_runs-k.result ≡ stretches (mended_positions o.args.bytes.now)
counted o = let sh = o.in_ok-told.ensures in rw sh.0 at o.outcome_runs-k.ensures

-- they are no more than the world may have
few : (c : Else-k-allowance) → c.outcome_runs-k.result ≤ allowance c.args.words.now c.args.world
few c = omega (arith, c.if-k-allowance.false, c.allowance.ensures)

-- nor than a written set can tell
few-most : (c : Else-k-allowance) → c.outcome_runs-k.result ≤ 65536
few-most c = omega (arith, few c, allowed-most c.requires.openable)

-- both slices are filled
filled : (p : After-put_outcome) → (p.put_outcome.new.out ≡ into_front (mended_set p.args.bytes.now) p.args.out.now)
    × (p.put_outcome.new.report ≡ into_front (mend_report p.args.bytes.now) p.args.report.now)
filled p = let sh = p.in_ok-told.ensures in rw sh.0 at p.put_outcome.ensures

-- and the runs are read from there
again : (p : After-put_outcome) → runs_told p.in_ok-told.told.edition p.outcome_runs-k.result (drop 5 (take p.length_of-due.result p.put_outcome.new.out))
    ≡ held_runs (mended_positions p.args.bytes.now)
again p =
    let k : p.outcome_runs-k.result ≡ stretches (mended_positions p.args.bytes.now) = let sh = p.in_ok-told.ensures in rw sh.0 at p.outcome_runs-k.ensures in
    read_again _ p.in_ok-told.ensures.1 k p.length_of-due.ensures _ (filled p).0
    (omega (arith, p.if-k-allowance.false, p.allowance.ensures, allowed-most p.requires.openable))

pub outcome_runs-k-requires : goal.outcome_runs-k-requires
outcome_runs-k-requires c = mendable (goal.at.outcome_runs-k-requires c).After-in_order-right

pub returns-in_err-told : goal.returns-in_err-told
returns-in_err-told c =
    let a = c.args in
    subst (λ r. Mends a.words.now a.world a.bytes.now a.out.now a.report.now r a.words.now a.out.now a.report.now)
    (sym (handed-on c.from_residual.result c.from_residual.ensures.1 (λ e p. p))) (mend-turned _ _ _ c.requires _ c.in_err-told.ensures)

pub returns-then-k-allowance : goal.returns-then-k-allowance
returns-then-k-allowance c =
    mend-full _ _ _ c.requires c.in_ok-told.ensures.1 (counted (goal.at.returns-then-k-allowance c).After-outcome_runs-k)
    (omega (arith, c.if-k-allowance.true, c.allowance.ensures)) refl refl refl

pub length_of-due-requires : goal.length_of-due-requires
length_of-due-requires c = omega (arith, few-most (goal.at.length_of-due-requires c).Else-k-allowance)

pub returns-then-out-due : goal.returns-then-out-due
returns-then-out-due c =
    let at = goal.at.returns-then-out-due c in
    mend-short _ _ _ c.requires c.in_ok-told.ensures.1 (counted at.After-outcome_runs-k) (few at.Else-k-allowance) c.length_of-due.ensures c.if-out-due.true refl refl

pub returns-then-report-notes : goal.returns-then-report-notes
returns-then-report-notes c =
    let at = goal.at.returns-then-report-notes c in
    mend-unreported _ _ _ c.requires c.in_ok-told.ensures.1 (counted at.After-outcome_runs-k) (few at.Else-k-allowance) c.length_of-due.ensures refl refl
    c.if-out-due.false c.if-report-notes.true

pub put_outcome-requires-clause-mendable : goal.put_outcome-requires-clause-mendable
put_outcome-requires-clause-mendable c = mendable (goal.at.put_outcome-requires-clause-mendable c).After-in_order-right

pub put_outcome-requires-clause-due : goal.put_outcome-requires-clause-due
put_outcome-requires-clause-due c =
    let sh = c.in_ok-told.ensures in
    rw sh.0
    (room-told _ sh.1 (counted (goal.at.put_outcome-requires-clause-due c).After-outcome_runs-k) c.length_of-due.ensures c.if-out-due.false c.if-report-notes.false)

-- they are as many as were counted, so the world may have them
fits : (o : After-open-h) → length (runs_told o.in_ok-told.told.edition o.outcome_runs-k.result (drop 5 (take o.length_of-due.result o.put_outcome.new.out))) ≤ o.allowance.result
fits o =
    let sh = o.in_ok-told.ensures in
    let k : o.outcome_runs-k.result ≡ stretches (mended_positions o.args.bytes.now) = rw sh.0 at o.outcome_runs-k.ensures in
    let p : o.put_outcome.new.out ≡ into_front (mended_set o.args.bytes.now) o.args.out.now = (rw sh.0 at o.put_outcome.ensures).0 in
    let few : o.outcome_runs-k.result ≤ 65536 = omega (arith, o.if-k-allowance.false, o.allowance.ensures, allowed-most o.requires.openable) in
    omega (arith, held-length _ (read_again _ sh.1 k o.length_of-due.ensures _ p few), k, o.if-k-allowance.false)

pub build-w-requires-clause-receives : goal.build-w-requires-clause-receives
build-w-requires-clause-receives c =
    let at = goal.at.build-w-requires-clause-receives c in
    receive-ready c.requires (held-many _ (again at.After-put_outcome)) c.allowance.ensures (fits at.After-open-h) c.open-h.ensures

pub build-w-requires-clause-ordered : goal.build-w-requires-clause-ordered
build-w-requires-clause-ordered c = held-ordered _ (again (goal.at.build-w-requires-clause-ordered c).After-put_outcome)

pub close-requires : goal.close-requires
close-requires c =
    let at = goal.at.close-requires c in
    (_, _, receive-closing c.requires (held-many _ (again at.After-put_outcome)) c.allowance.ensures (fits at.After-open-h) c.open-h.ensures _ c.build-w.ensures)

pub returns : goal.returns
returns c =
    let at = goal.at.returns c in
    let many = held-many _ (again at.After-put_outcome) in
    mend-done _ _ _ c.requires c.in_ok-told.ensures.1 (counted at.After-outcome_runs-k) (few at.Else-k-allowance) c.length_of-due.ensures refl refl
    c.if-out-due.false c.if-report-notes.false (again at.After-put_outcome) (filled at.After-put_outcome)
    (receive-few c.requires many c.allowance.ensures (fits at.After-open-h) c.open-h.ensures)
    (receive-settled c.requires many c.allowance.ensures (fits at.After-open-h) c.open-h.ensures _ c.build-w.ensures c.close.ensures.closes)
