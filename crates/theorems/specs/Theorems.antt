-- THE THEOREMS beside the one on whole plays (Determinism.antt). No tree and no offset is mentioned, but in those about
-- the deepest tree: a pool is known by what its calls promise.
-- Assumes nothing: these are statements. proofs/Theorems.antt proves each under its name, in small letters.
use Rattle.std.specs.Prelude.{Some}
use Rattle.std.specs.declared.ops.Bound.TheVariants.{Included}
use Rattle.model.specs.Answers.{OrRefusal}
use Rattle.std.specs.Prelude.{ℕ, ◌+◌, ◌*◌, ◌^◌, ◌≤◌, ◌<◌, ◌≡◌, true, false, List, length, take, replicate, get_or}
use Rattle.model.specs.declared.Edition.{Edition}
use Rattle.model.specs.declared.Edition.TheVariants.{Rows, Columns}
use Rattle.model.specs.Numbers.{size}
use Rattle.model.specs.declared.Run.{Run}
use Rattle.model.specs.Answers.{written_answer}
use Rattle.model.specs.Bytes.{edition_of}
use Rattle.model.specs.RunList.{AllBytes}
use Rattle.model.specs.Positions.{empty, stretches}
use Rattle.model.specs.Call.{Call, deepest, why_full, Result, done, number, written, mended, Answer, refused, gave}
use Rattle.model.specs.Model.{plan, serve}
use Rattle.model.specs.Pools.{world_of, other_claims, answers, alone}
use Rattle.model.specs.Bytes.{into_front}
use Rattle.model.specs.declared.between.Range.{Range}
use Rattle.model.specs.Spawning.{ranges_of, sets_of, pick, AllGiven, StopsAt}
use Rattle.model.specs.Clearing.{clear_map}
use Rattle.model.specs.Mending.{mended_positions}
use Rattle.model.specs.Deepest.{least, deepest_runs, deepest_words}
use Rattle.model.specs.Converting.{convert, document_one_refusal}
use Rattle.run_index.specs.Tree.{height}
use Rattle.pool.specs.Layout.{capacity, allowance, opened_at, floor_at, held_by, worlds_of, world_at, tree_at}
use Rattle.pool.specs.Soundness.{runs_at, Sound}
use Rattle.union.specs.Entries.{In}
use Rattle.why_full.specs.Placing.{Climbing}
use Rattle.interval_bit_set.specs.Met.{Site, fed_at, fed_of, Leaves, Met, Measured}
use Rattle.interval_bit_set.specs.Out.{WritesOut}
use Rattle.interval_bit_set.specs.Handles.{Handles}
use Rattle.flat.specs.Records.{records_of}
use Rattle.frame.specs.Frame.{Framed}
use Rattle.frame.specs.Records.{calls_of}
use Rattle.theorems.specs.Determinism.{PlayAlike, Loads}
use Rattle.theorems.specs.Beside.{Beside}
use Rattle.theorems.specs.Clearing.{old_reading, WritesMap}
use Rattle.theorems.specs.Surveys.{piece, Listed, words_of, Parts}
use Rattle.theorems.specs.Why.{ArePlaces}
use Rattle.theorems.specs.Heights.{SetOneByOne}

-- ---- sets that are written, and pools that hold the same
-- world i of the words w writes bs as a set of edition e
pub record WritesSet (w : List ℕ) (i : ℕ) (e : Edition) (bs : List ℕ) : Type 0 where
  pub out : List ℕ
  pub count : ℕ
  pub slice : List ℕ
  pub after : List ℕ
  pub met : Met w i (Call.write_set e out) (gave (written count slice)) after
  pub bytes : bs ≡ take count slice

-- sets written in one edition from two worlds, of one pool or of two, however made, are the same bytes exactly when the
-- worlds' positions are the same
abbrev pub Equal-bytes : Type 0
Equal-bytes =
    (e : Edition) (w : List ℕ) (i : ℕ) (v : List ℕ) (j : ℕ) (bs cs : List ℕ)
    → WritesSet w i e bs → WritesSet v j e cs → (held_by w i ≡ held_by v j → bs ≡ cs) × (bs ≡ cs → held_by w i ≡ held_by v j)

-- an answer that tells of bytes written
abbrev pub Wrote : Answer → Type 0
Wrote a = (n : ℕ) × (bs : List ℕ) × (a ≡ gave (written n bs))

-- a slice of 5 + 16 × C bytes is long enough: writing a world's set into it, in either edition, is not refused
abbrev pub Room-suffices : Type 0
Room-suffices =
    (w : List ℕ) (i : ℕ) (e : Edition) (out v : List ℕ) (a : Answer)
    → Sound w → i < opened_at w → 5 + 16 * capacity w ≤ length out → Met w i (Call.write_set e out) a v → Wrote a

-- two sound pools of one capacity, however made, that opened equally many worlds, with equal positions, floors and
-- ceilings in each, play on alike: every later list of equal moves is heard alike, and leaves equal worlds after each
abbrev pub Equal-pools : Type 0
Equal-pools =
    (w v : List ℕ) → Sound w → Sound v → capacity w ≡ capacity v → worlds_of w ≡ worlds_of v → PlayAlike w v

-- a frame that is done, on whatever pool, has written the records of the plain model's answers to its calls, one after another, into the front
-- of its slice
abbrev pub Framed-wrote : Type 0
Framed-wrote =
    (w calls out w' out' : List ℕ)
    → Framed w calls out (gave done) w' out' → out' ≡ into_front (records_of (answers (capacity w) (worlds_of w) (calls_of calls))) out

-- ---- worlds in one pool
-- a world may always reach its floor: in a sound pool no call that would be done if no number of runs were too many, and
-- would leave at most floor runs then, is refused with 8
abbrev pub Floor-reached : Type 0
Floor-reached =
    (w : List ℕ) (i : ℕ) (c : Call Site) (a : Answer) (w' : List ℕ) (r : Result)
    → Sound w → i < opened_at w → Met w i c a w' → (serve (λ r. false) (fed_of w i) (plan fed_at c)).answer ≡ gave r
    → stretches (serve (λ r. false) (fed_of w i) (plan fed_at c)).positions ≤ floor_at w i → a ≡ refused 8 → ⊥

-- neighbours are known through the sum alone: if two sound pools of one capacity agree in world i, and in the sum over the
-- other worlds of the larger of runs and floor, every call on world i answers alike in both, and leaves world i alike
abbrev pub Sum-alone : Type 0
Sum-alone =
    (w v : List ℕ) (i : ℕ) (c d : Call Site) (a b : Answer) (w' v' : List ℕ)
    → Sound w → Sound v → capacity w ≡ capacity v → world_of (worlds_of w) i ≡ world_of (worlds_of v) i → other_claims (worlds_of w) i ≡ other_claims (worlds_of v) i
    → plan fed_at c ≡ plan fed_at d → Met w i c a w' → Met v i d b v' → (a ≡ b) × (world_of (worlds_of w') i ≡ world_of (worlds_of v') i)

-- and over lists: of equal calls on world i, with calls of the neighbours in between, every answer is the same in both
-- pools, and world i is alike in the end
abbrev pub Sum-alone-lists : Type 0
Sum-alone-lists =
    (w v : List ℕ) (i : ℕ) (rs qs : List Answer) (w' v' : List ℕ)
    → Sound w → Sound v → capacity w ≡ capacity v → world_of (worlds_of w) i ≡ world_of (worlds_of v) i
    → other_claims (worlds_of w) i ≡ other_claims (worlds_of v) i
    → Beside i w v rs qs w' v' → (rs ≡ qs) × (world_of (worlds_of w') i ≡ world_of (worlds_of v') i)

-- ---- cleared maps (document 02, Ticket 2)
-- if clear_map was called on bs and left bs', then what read_map of bs' answers and leaves is document 01's reading of bs
abbrev pub Cleared-reads : Type 0
Cleared-reads =
    (base n : ℕ) (bs bs' w : List ℕ) (i : ℕ) (w' : List ℕ) (c a : Answer)
    → Handles (clear_map base n bs) c bs' → Met w i (Call.read_map base n bs') a w'
    → (a ≡ (old_reading w i base n bs).answer) × Leaves w w' i (old_reading w i base n bs).positions a

-- a second call leaves what the first one left, and answers 0 if the first was not refused
abbrev pub Cleared-once : Type 0
Cleared-once =
    (base n : ℕ) (bs bs' bs'' : List ℕ) (c d : Answer)
    → Handles (clear_map base n bs) c bs' → Handles (clear_map base n bs') d bs''
    → (bs'' ≡ bs') × ((k : ℕ) → c ≡ gave (number k) → d ≡ gave (number 0))

-- clear_map leaves a map that write_map wrote, and answers 0
abbrev pub Written-stays : Type 0
Written-stays =
    (w : List ℕ) (i base n : ℕ) (bs bs' : List ℕ) (a : Answer)
    → WritesMap w i base n bs → Handles (clear_map base n bs) a bs' → (a ≡ gave (number 0)) × (bs' ≡ bs)

-- ---- maps a word at a time (document 02, Ticket 4)
-- `read_map` and `read_map_by_bytes` promise the same `Met`, `write_map` and `write_map_by_bytes` the same `WritesOut`. So on every input the two
-- forms of reading answer alike, refusals included, and leave the same worlds; and those of writing answer alike and leave the same slice
abbrev pub Forms-agree : Type 0
Forms-agree =
    ((w : List ℕ) (i base n : ℕ) (bs : List ℕ) (a b : Answer) (w' v' : List ℕ)
    → Met w i (Call.read_map base n bs) a w' → Met w i (Call.read_map base n bs) b v' → (a ≡ b) × (worlds_of w' ≡ worlds_of v'))
    × ((w : List ℕ) (i base n : ℕ) (out : List ℕ) (r s : OrRefusal ℕ) (out' out'' : List ℕ)
    → WritesOut (Call.write_map base n) w i out r out' → WritesOut (Call.write_map base n) w i out s out'' → (written_answer r out' ≡ written_answer s out'') × (out' ≡ out''))

-- ---- fill (document 02, Ticket 7)
-- a fill that is not refused is 0 exactly where nothing of the window is held
abbrev pub Fill-none : Type 0
Fill-none =
    (w : List ℕ) (i base n k : ℕ) (w' : List ℕ)
    → Met w i (Call.fill base n) (gave (number k)) w'
    → (k ≡ 0 → (x : ℕ) → base ≤ x → x < base + n → held_by w i x ≡ false) × (((x : ℕ) → base ≤ x → x < base + n → held_by w i x ≡ false) → k ≡ 0)

-- and 1000 where all of it is
abbrev pub Fill-full : Type 0
Fill-full =
    (w : List ℕ) (i base n k : ℕ) (w' : List ℕ)
    → Met w i (Call.fill base n) (gave (number k)) w' → ((x : ℕ) → base ≤ x → x < base + n → held_by w i x ≡ true) → k ≡ 1000

-- ---- written sets of two editions (document 02, Ticket 8)
-- a set that was converted is converted back, byte for byte, into any slice that has room for it
abbrev pub Converted-back : Type 0
Converted-back =
    (bs out cs : List ℕ) (n : ℕ) (out₂ ds : List ℕ) (a : Answer)
    → AllBytes bs → Handles (convert bs out) (gave (written n cs)) cs → Handles (convert (take n cs) out₂) a ds → n ≤ length out₂
    → (a ≡ gave (written n ds)) × (take n ds ≡ bs)

-- a load of the converted set answers what a load of the set itself does, refusals included, and leaves the same worlds
abbrev pub Converted-loads : Type 0
Converted-loads =
    (bs out cs : List ℕ) (n : ℕ) (w : List ℕ) (i : ℕ) (a b : Answer) (w' v' : List ℕ)
    → AllBytes bs → Handles (convert bs out) (gave (written n cs)) cs → Met w i (Call.load bs) a w' → Met w i (Call.load (take n cs)) b v'
    → (a ≡ b) × (worlds_of w' ≡ worlds_of v')

-- what is converted is refused as a load is, but for its world and its capacity: a byte string that loads into some pool is converted wherever
-- there is room
abbrev pub Loads-converts : Type 0
Loads-converts =
    (C : ℕ) (bs out cs : List ℕ) (a : Answer)
    → AllBytes bs → Loads C bs → Handles (convert bs out) a cs → length bs ≤ length out → a ≡ gave (written (length bs) cs)

-- a reader that knows edition 1 alone refuses every set of edition 2 with 4: one that `write_set` wrote, one that `convert`
-- wrote of a set of edition 1, and one that `mend` wrote of a set of edition 2
abbrev pub Old-reader : Type 0
Old-reader =
    ((w : List ℕ) (i : ℕ) (bs : List ℕ) → WritesSet w i Columns bs → document_one_refusal bs ≡ Some 4)
    × ((bs out cs : List ℕ) (n : ℕ)
    → Handles (convert bs out) (gave (written n cs)) cs → edition_of bs ≡ Rows → document_one_refusal (take n cs) ≡ Some 4)
    × ((w : List ℕ) (i : ℕ) (bs out report out' report' : List ℕ) (n m : ℕ) (w' : List ℕ)
    → Met w i (Call.mend bs out report) (gave (mended n out' m report')) w' → edition_of bs ≡ Columns
    → document_one_refusal (take n out') ≡ Some 4)

-- ---- mending (document 02, Ticket 9)
-- a set that loads, and so is right already, comes back byte for byte, and every run of it is kept
abbrev pub Mended-right : Type 0
Mended-right =
    (w : List ℕ) (i : ℕ) (bs out report out' report' : List ℕ) (n m : ℕ) (C : ℕ) (w' : List ℕ)
    → AllBytes bs → Loads C bs → Met w i (Call.mend bs out report) (gave (mended n out' m report')) w'
    → (take n out' ≡ bs) × (take m report' ≡ replicate m 2)

-- what mending writes as a set loads, and leaves the world that mending left
abbrev pub Mended-loads : Type 0
Mended-loads =
    (w : List ℕ) (i : ℕ) (bs out report out' report' : List ℕ) (n m : ℕ) (w' : List ℕ) (a : Answer) (v' : List ℕ)
    → AllBytes bs → Met w i (Call.mend bs out report) (gave (mended n out' m report')) w' → Met w i (Call.load (take n out')) a v'
    → (a ≡ gave done) × (worlds_of v' ≡ worlds_of w')

-- a world may reach its floor by mending too, whatever slices are lent: an outcome of at most floor runs is not refused with 8
abbrev pub Mended-floor : Type 0
Mended-floor =
    (w : List ℕ) (i : ℕ) (bs out report : List ℕ) (a : Answer) (w' : List ℕ)
    → Sound w → i < opened_at w → Met w i (Call.mend bs out report) a w' → stretches (mended_positions bs) ≤ floor_at w i → a ≡ refused 8 → ⊥

-- ---- the deepest tree (document 02, Ticket 10)
-- a list for the height h that is not refused has `least h` runs, start and end of each in turn; and in no sound pool is a world of fewer physical runs
-- that high
abbrev pub Deepest-shortest : Type 0
Deepest-shortest =
    (w : List ℕ) (h : ℕ) (out out' : List ℕ) (n : ℕ) (w' : List ℕ)
    → Measured w (deepest h) out (gave (written n out')) w'
    → (n ≡ 2 * least h) × (take n out' ≡ deepest_words h)
    × ((v : List ℕ) (i : ℕ) → Sound v → i < opened_at v → runs_at v i < least h → height (tree_at v i) < h)

-- set one by one into an empty world, the list for the height h makes a tree of that height, and no list of fewer runs makes one that high. The offset,
-- a word, need not be 0: it is, where a world is empty
abbrev pub Deepest-height : Type 0
Deepest-height =
    (w : List ℕ) (i h : ℕ) (w' : List ℕ)
    → Sound w → i < opened_at w → (world_at w i).offset < size → ((x : ℕ) → x < size → held_by w i x ≡ false)
    → (SetOneByOne w i (deepest_runs h) w' → height (tree_at w' i) ≡ h)
    × ((rs : List Run) → length rs < least h → SetOneByOne w i rs w' → height (tree_at w' i) < h)

-- and one run more is given, where the world may have more runs than were set: so one that may have `least h` takes the whole list
abbrev pub Deepest-room : Type 0
Deepest-room =
    (w : List ℕ) (i : ℕ) (rs : List Run) (r : Run) (w' v : List ℕ) (a : Answer)
    → Sound w → i < opened_at w → (world_at w i).offset < size → ((x : ℕ) → x < size → held_by w i x ≡ false)
    → SetOneByOne w i rs w' → length rs < allowance w i → Met w' i (Call.set (Included r.start) (Included r.«end») true) a v
    → (n : ℕ) × (a ≡ gave (number n))

-- ---- surveys
-- what a survey that is not refused lists parts the square: every cell in just one piece, each of one value and as large as halving allows, left before
-- right, upper before lower
abbrev pub Survey-parts : Type 0
Survey-parts =
    (w : List ℕ) (i row column k : ℕ) (out out' : List ℕ) (n : ℕ) (w' : List ℕ)
    → Met w i (Call.survey row column k out) (gave (written n out')) w'
    → (ls : List Listed) × (take n out' ≡ words_of ls) × Parts (held_by w i) (piece row column (2 ^ k) (2 ^ k)) ls

-- ---- why a list stopped (document 02, Ticket 13)
-- what a pool of one world that may have C runs, which is empty, answers to the ranges rs, set to true one by one
abbrev pub spawned : ℕ → List Range → List Answer
spawned C rs = answers C (alone C empty) (sets_of rs)

-- a list lent as words
abbrev pub Words : List ℕ → Type 0
Words ws = ((i : ℕ) → get_or ws i 0 < size) × (length ws < size)

-- places that are told are C + 1, rising, and of the list. The ranges at them are refused with 8 at the last of them, and not before; and the ranges at
-- fewer places, whichever, are not refused
abbrev pub Why-smallest : Type 0
Why-smallest =
    (w ranges out out' : List ℕ) (n : ℕ) (w' : List ℕ) (d : Range)
    → Words ranges → Measured w (why_full ranges) out (gave (written n out')) w'
    → (n ≡ capacity w + 1) × Climbing 0 (take n out') × ((p : ℕ) → In p (take n out') → p < length (ranges_of ranges))
    × StopsAt (capacity w) (spawned (capacity w) (pick d (ranges_of ranges) (take n out')))
    × ((qs : List ℕ) → length qs < n → AllGiven (spawned (capacity w) (pick d (ranges_of ranges) qs)))

-- 16 is given only where no call of the list is refused
abbrev pub Why-none : Type 0
Why-none = (w ranges out w' : List ℕ) → Measured w (why_full ranges) out (refused 16) w' → AllGiven (spawned (capacity w) (ranges_of ranges))

-- in words of a pool's length: 16 is given exactly where no call of the list is refused. Where the call at place f is the first refused one, the answer is
-- the places of the ranges that are first in their runs then, in a slice of C + 1 words or more; in a shorter one it is 2
abbrev pub Why-exact : Type 0
Why-exact =
    (w ranges out : List ℕ) (a : Answer) (w' : List ℕ) (d : Range)
    → 1 ≤ capacity w → Words ranges → Measured w (why_full ranges) out a w'
    → (a ≡ refused 16 → AllGiven (spawned (capacity w) (ranges_of ranges)))
    × (AllGiven (spawned (capacity w) (ranges_of ranges)) → a ≡ refused 16)
    × ((f : ℕ) → StopsAt f (spawned (capacity w) (ranges_of ranges))
    → (capacity w + 1 ≤ length out
    → (ps : List ℕ) × ArePlaces (capacity w) (ranges_of ranges) d f ps × (a ≡ gave (written (capacity w + 1) (into_front ps out))))
    × (length out < capacity w + 1 → a ≡ refused 2))
