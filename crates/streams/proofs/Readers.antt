-- A reader that looks for the next run in the part where it stands, and goes on after it: what it finds is what it hands out. Assumes nothing.
use Rattle.std.specs.Prelude.{Option, None, Some}
use Prim.Native.Nat.{ℕ, suc, ◌≤◌, ◌<◌}
use mathlib.Core.Path.{◌≡◌, sym, ◌∙◌, subst}
use native.Mathlib.Omega.{arith}
use Rattle.std.specs.Iterator.{at_most, MakesProgress}
use Rattle.model.specs.declared.Run.{Run}
use Rattle.model.specs.declared.Logical.{Logical}
use Rattle.model.specs.Positions.{Positions}
use Rattle.streams.specs.declared.source.Reader.{Reader}
use Rattle.pool.specs.Layout.{physical_runs}
use Rattle.streams.specs.declared.source.Path.{Path}
use Rattle.streams.specs.Reading.{Clear, RunFrom, After, OnPath, Pops, InLast, InFirst, Ahead, lastly, firstly, Left, Draws, positions_from, LastAt, FirstAt, Stands, Finds, Reads}
use Rattle.streams.proofs.Iterated.{StandsAt, draw-goes}
use Rattle.streams.proofs.Firsts.{first-last, first-over-run, first-over-clear}

-- ---- the part where it stands
stands-first : {r : Reader} {y : ℕ} {Q : Positions} → y < r.view.offset → Stands r y Q → FirstAt r y Q
stands-first {r} {y} {Q} l h = record { rooted = h.rooted; part = go h.ahead }
  where
    go : Ahead r.words.now r.view r.path y Q → InFirst r.words.now r.view r.path y Q
    go (firstly i) = i
    go (lastly i) = absurd (omega (arith, i.past))

stands-last : {r : Reader} {y : ℕ} {Q : Positions} → r.view.offset ≤ y → Stands r y Q → LastAt r y Q
stands-last {r} {y} {Q} l h = record { rooted = h.rooted; part = go h.ahead }
  where
    go : Ahead r.words.now r.view r.path y Q → InLast r.words.now r.view r.path y Q
    go (firstly i) = absurd (omega (arith, i.before))
    go (lastly i) = i

pub find-first : (r r' : Reader) (y s : ℕ) (o : Option Run) → s ≡ r.view.offset → y < s → Finds FirstAt r y o r' → Finds Stands r y o r'
find-first r r' y s None e l f = λ Q h. f Q (stands-first (omega arith) h)
find-first r r' y s (Some x) e l f = λ Q h. f Q (stands-first (omega arith) h)

pub find-last : (r r' : Reader) (y s : ℕ) (o : Option Run) → s ≡ r.view.offset → s ≤ y → Finds LastAt r y o r' → Finds Stands r y o r'
find-last r r' y s None e l f = λ Q h. f Q (stands-last (omega arith) h)
find-last r r' y s (Some x) e l f = λ Q h. f Q (stands-last (omega arith) h)

-- ---- over the seam, with the root's nodes on the path d
abbrev pub over : Reader → Path → Reader
over r d = record { words = r.words; view = r.view; path = d; from = r.from }

-- the reader stands at the start of the last part
pub seam-at : {r : Reader} {y s : ℕ} {Q : Positions} {d : Path} → s ≡ r.view.offset → FirstAt r y Q
    → OnPath r.words.now d (physical_runs r.words.now r.view.root) → LastAt (over r d) s Q
seam-at {r} {y} {s} {Q} {d} e h all =
    subst (λ x. LastAt (over r d) x Q) (sym e) (record { rooted = h.rooted; part = first-last h.part all })

-- the first part was over
pub find-over : (r r' : Reader) (y s : ℕ) (p' d : Path) (o : Option Run) → s ≡ r.view.offset → Pops r.words.now r.path None p'
    → ((Q : Positions) → FirstAt r y Q → OnPath r.words.now d (physical_runs r.words.now r.view.root)) → Finds LastAt (over r d) s o r'
    → Finds FirstAt r y o r'
find-over r r' y s p' d None e ps all f = λ Q h.
    let g = f Q (seam-at e h (all Q h)) in (first-over-clear h.part ps (subst (λ x. Clear x Q) e g.0), g.1, g.2)
find-over r r' y s p' d (Some t) e ps all f = λ Q h.
    let g = f Q (seam-at e h (all Q h)) in (first-over-run h.part ps (subst (λ x. RunFrom x t.start t.«end» Q) e g.0), g.1)

-- ---- the next run
-- whatever position the reader has at hand
abbrev pub told : Reader → Option Logical → Reader
told r t = record { words = r.words; view = r.view; path = r.path; from = t }

module _ {r : Reader} {a : Logical} (e : Some a ≡ r.from) {y : ℕ} {Q : Positions} (h : Reads r y Q) where
  left : (a.0 ≡ y) × Ahead r.words.now r.view r.path y Q
  left = subst (Left r.words.now r.view r.path y Q) (sym e) h.left

  standing : (t : Option Logical) → Stands (told r t) a.0 Q
  standing t = record { rooted = h.rooted; ahead = subst (λ z. Ahead r.words.now r.view r.path z Q) (sym left.0) left.1 }

-- none is left
pub next-none : (r r' : Reader) (t : Option Logical) (a : Logical) → Some a ≡ r.from → t ≡ None → Finds Stands (told r t) a.0 None r' → Draws Reads r None r'
next-none r r' t a e n f = λ y Q h.
    let g = f Q (standing e h t) in
    let c = subst (λ z. Clear z Q) (left e h).0 g.0 in
    (c, record { rooted = g.1; left = subst (Left r'.words.now r'.view r'.path y Q) (sym (g.2 ∙ n)) c })

-- the reader stands after it
left-after : (r : Reader) (b : ℕ) (Q : Positions) (o : Option Logical) → After b o → Ahead r.words.now r.view r.path (suc b) Q
    → Left r.words.now r.view r.path (suc b) Q o
left-after r b Q None n i = λ z l k. absurd (omega arith)
left-after r b Q (Some a) n i = (n, i)

pub next-some : (r r' : Reader) (t : Option Logical) (a : Logical) (x : Run) (o : Option Logical) → Some a ≡ r.from → Finds Stands (told r t) a.0 (Some x) r' → After x.«end» o
    → Draws Reads r (Some x) (record { words = r'.words; view = r'.view; path = r'.path; from = o })
next-some r r' t a x o e f n = λ y Q h.
    let g = f Q (standing e h t) in
    (subst (λ z. RunFrom z x.start x.«end» Q) (left e h).0 g.0, record { rooted = g.1.rooted; left = left-after r' x.«end» Q o n g.1.ahead })

-- what it hands out leaves fewer positions
reads-stand : (r : Reader) (y : ℕ) (Q : Positions) → Reads r y Q → StandsAt r.from y Q
reads-stand r y Q h = go r.from h.left
  where
    go : (o : Option Logical) → Left r.words.now r.view r.path y Q o → StandsAt o y Q
    go None l = l
    go (Some a) l = l.0

pub reads-goes : (r r' : Reader) (o : Option Run) → (y : ℕ) × (Q : Positions) × Reads r y Q → Draws Reads r o r'
    → MakesProgress (λ s. (y : ℕ) × (Q : Positions) × Reads s y Q) (λ s. at_most (positions_from s.from)) r o r'
reads-goes = draw-goes (λ s. s.from) reads-stand
