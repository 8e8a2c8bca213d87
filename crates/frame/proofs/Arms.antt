-- A record of a withdrawn number is refused with 12: no pool has as many worlds as the one that it asks at. Assumes nothing.
use Rattle.std.specs.Prelude.{◌≡◌, ℕ, ◌-◌, true, false, Bool, List, [], ◌||◌, eqb}
use mathlib.Core.Path.{refl, sym, subst}
use native.Mathlib.Omega.{arith}
use Rattle.model.specs.Numbers.{size}
use Rattle.model.specs.Call.{refused}
use Rattle.model.specs.Model.{Plan, plan}
use Rattle.flat.specs.declared.Reply.{Reply}
use Rattle.flat.specs.Flat.{reply_of}
use Rattle.interval_bit_set.specs.Met.{fed_at}
use Rattle.interval_bit_set.specs.Look.{Checked}
use Rattle.interval_bit_set.proofs.Looking.{checked-sound, shut-alone}
use Rattle.frame.specs.declared.entry.Kind.{Kind}
use Rattle.frame.specs.declared.entry.Entry.{Entry}
use Rattle.frame.specs.Records.{call_by, kind_of, world_by}
use Rattle.frame.specs.Serving.{Serves}

-- no record names a further pool
alone : (k : Kind) (e : Entry) → [] ≡ (plan fed_at (call_by k e)).further
alone Kind.Empty e = refl
alone Kind.Set e = refl
alone Kind.Flip e = refl
alone Kind.Shift e = refl
alone Kind.RunAt e = refl
alone Kind.Find e = refl
alone Kind.Select e = refl
alone Kind.Ranges e = refl
alone Kind.DrawFront e = refl
alone Kind.DrawBack e = refl
alone Kind.Fill e = refl
alone Kind.Gap e = refl
alone Kind.Tally e = refl
alone Kind.SetStrict e = refl
alone Kind.FlipStrict e = refl
alone Kind.TallyStrict e = refl
alone Kind.SetRect e = refl
alone Kind.CountRect e = refl
alone Kind.Get e = refl

pub withdrawn-served : {w : List ℕ} (e : Entry) {r : Reply} → Checked w → world_by e ≡ size - 1 → r ≡ reply_of (refused 12) → Serves w e r w
withdrawn-served e k far f = (refused 12, shut-alone (alone (kind_of e.call) e) k (omega (arith, (checked-sound k).few, far)), f)
