-- The calls on an open batch: put, close and drop.
use Rattle.std.proofs.Common.{◌≡◌, ℕ, ◌+◌, ◌-◌, ◌<◌, ◌≤◌, Bool, true, false, cond, eqb, ◌⊎◌, List, [], ◌∷◌, ◌++◌, length, get_or, Some, None, Ok, Err, Option, Result, sym, refl, ap, ◌∙◌, subst, inl, inr, ⊎_elim, append_assoc, append-nil, arith, length-append, Bor}
use mathlib.Core.List.{map-append}
use Rattle.std.proofs.lemmas.Bool.{eq-eqb, cond-true, cond-false}
use Rattle.chip.specs.declared.Home.{Home}
use Rattle.chip.specs.declared.Fault.{Fault}
use Rattle.chip.specs.Flash.{Flash}
use Rattle.chip.specs.Steps.{Step}
use Rattle.chip.specs.Plans.{Performs}
use Rattle.chip.proofs.Performed.{performed_frame, performs_on}
use Rattle.label.specs.declared.Sizes.{Sizes}
use Rattle.ring.specs.declared.Sector.{Sector}
use Rattle.ring.specs.Places.{positions}
use Rattle.ring.specs.Logs.{Entry, ends, holds}
use Rattle.ring.specs.Rules.{unfilled}
use Rattle.laid.specs.Sane.{last_flags, Ended, Sane}
use Rattle.laid.specs.Writing.{mark, putting, closing, dropping}
use Rattle.slots.specs.Left.{AllOfSlot}
use Rattle.slots.proofs.Besides.{front_kept, slot_past, putting_of, mark_of}
use Rattle.holding.specs.Puts.{Put, wrote, filled_put, closed_put, filled_puts}
use Rattle.holding.proofs.Closing.{holds_open, holds_closed_last}
use Rattle.keeping.specs.Carries.{Carries}
use Rattle.keeping.proofs.Orders.{length_one, last_is, ended_by, ended_filled}
use Rattle.keeping.proofs.Stills.{Still}
use Rattle.keeping.proofs.Batches.{put_sane, put_cut_still, close_sane, close_cut_sane, drop_sane, drop_cut_still}
use Rattle.engine.specs.declared.memory.Batch.{Batch}
use Rattle.engine.specs.declared.memory.Started.{Started}
use Rattle.engine.specs.declared.memory.Memory.{Memory}
use Rattle.engine.specs.declared.refusal.Refusal.{Refusal}
use Rattle.engine.specs.Refusals.{numbers, row}
use Rattle.engine.specs.Memories.{Serves, Mine, sizes_of, cleared_of, claimed_of, halted, idle, one_more}
use Rattle.engine.specs.Calls as calls
use Rattle.engine.specs.Calls.{CutAt, Puttable, Puts, Ends}
use Rattle.runs.specs.declared.run.Call.TheVariants as call
use Rattle.runs.specs.Ledger.{Ledger, puts_of, joined, over, written, is_cut, enter, Answer}
use Rattle.runs.specs.Runs.{said}
use Rattle.runs.proofs.Standing.{Room, Batched, Stands, Kept, Inv, Next}
use Rattle.runs.proofs.Common.{kept_of, carries_of, label_kept, sized_kept}

-- the ledger after a refusal because power failed, and after any other
pub cut_ledger : (P : Ledger → Type 0) (k l : Ledger) (e : Refusal) {h : Home} → CutAt e h → P k → P (cond (is_cut e) k l)
cut_ledger P k l e is p = subst P (sym (cond-true _ _ _ (eq-eqb (row e) 13 (ap (λ ns. get_or ns 0 0) is)))) p

pub same_ledger : (P : Ledger → Type 0) (k l : Ledger) (e : Refusal) {i : ℕ} → numbers e ≡ i ∷ [] → eqb i 13 ≡ false → P l → P (cond (is_cut e) k l)
same_ledger P k l e is other p = subst P (sym (cond-false _ _ _ (ap (λ ns. eqb (get_or ns 0 0) 13) is ∙ other))) p

-- the invariant after a plan of one slot
pub settled : {z : Sizes} {s t : Flash} {m w : Memory} {l k : Ledger} {ps : List Step} {r : Result (Unit {0}) Fault} (y : Sizes) (c p : ℕ) → Inv z s m l → Performs ps s r t → AllOfSlot y c p ps → Carries t z k.sectors → Kept z t w.started k → Inv z t w k
settled {s = s} {t = t} {ps = ps} y c p inv h of carries kept =
    let blocks = (performed_frame h).blocks in
    record {
      labelled = label_kept s t blocks (front_kept h (slot_past y c p ps of)) inv.labelled;
      sized = sized_kept s t blocks inv.sized;
      carries = carries;
      kept = kept;
    }

-- what an image holds that still holds what a standing volume's did
pub still_carries : {z : Sizes} {s t : Flash} {st : Started} {l : Ledger} (h : Stands z s st l) → Still t z (h.ended_entries ++ filled_puts h.puts) → Carries t z l.sectors
still_carries h still = record {
  cleared = still.cleared;
  entries = still.entries;
  shaped = still.shaped;
  sane = still.sane;
  holds = λ x. still.same x ∙ holds_open x h.ended_entries h.puts ∙ h.same x;
}

-- the entries of an open batch with one put more
pub more_puts : (es : List Entry) (ps : List Put) (p : Put) → (es ++ filled_puts ps) ++ (filled_put p ∷ []) ≡ es ++ filled_puts (ps ++ (p ∷ []))
more_puts es ps p =
    append_assoc es (filled_puts ps) (filled_put p ∷ [])
    ∙ ap (λ (ys : List Entry). es ++ ys) (sym (map-append filled_put ps (p ∷ [])))

-- some puts: all but the last, and the last
pub last_put : (p : Put) (ps : List Put) → (qs : List Put) × (q : Put) × (p ∷ ps ≡ qs ++ (q ∷ []))
last_put p [] = ([], p, refl)
last_put p (r ∷ rs) = let x = last_put r rs in (p ∷ x.0, x.1, ap (λ (l : List Put). p ∷ l) x.2)

-- an open batch behind entries that end a group: the last entry is filled
pub open_filled : (es : List Entry) (ps : List Put) → Ended es → 0 < length (es ++ filled_puts ps) → unfilled (last_flags (es ++ filled_puts ps)) ≡ false
open_filled es [] ended some =
    subst (λ (xs : List Entry). 0 < length xs → unfilled (last_flags xs) ≡ false) (sym (append-nil es))
    (λ there. ended_filled (last_flags es) (ended there))
    some
open_filled es (p ∷ ps) ended some =
    let x = last_put p ps in
    let same : es ++ filled_puts (p ∷ ps) ≡ (es ++ filled_puts x.0) ++ (filled_put x.1 ∷ []) =
    ap (λ (l : List Put). es ++ filled_puts l) x.2 ∙ sym (more_puts es x.0 x.1) in
    ap (λ (xs : List Entry). unfilled (last_flags xs)) same
    ∙ ap unfilled (last_is (es ++ filled_puts x.0) (filled_put x.1))

-- the open batch of a started volume, as the ledger has it
pub batch_of : {z : Sizes} {s : Flash} {st : Started} {l : Ledger} {b : Batch} {n : ℕ} (h : Stands z s st l) → Mine st n b → Batched (Some b) l.batch h.puts (positions z (cleared_of st) - claimed_of st)
batch_of {z} {s} {st} {l} h mine =
    subst (λ (o : Option Batch). Batched o l.batch h.puts (positions z (cleared_of st) - claimed_of st)) mine.0 h.batched

-- some puts that are not none: all but the last, and the last
pub last_of : (ps : List Put) → 0 < length ps → (qs : List Put) × (q : Put) × (ps ≡ qs ++ (q ∷ []))
last_of [] some = absurd (omega (arith, some))
last_of (p ∷ ps) some = last_put p ps

pub no_puts : (ps : List Put) → length ps ≡ 0 → ps ≡ []
no_puts [] none = refl
no_puts (p ∷ ps) none = absurd (omega (arith, none))

-- an open batch
module _ {z : Sizes} {s : Flash} {m : Memory} {l : Ledger} {st : Started} {b : Batch} {n : ℕ} (inv : Inv z s m l) (serves : Serves s m st) (mine : Mine st n b) where
  here : Stands z s st l
  here = kept_of inv serves.started

  abbrev all : List Entry
  all = here.ended_entries ++ filled_puts here.puts

  noted : puts_of l.batch ≡ here.puts
  noted = ap puts_of (batch_of here mine).0

  fits : Room b here.puts (positions z (cleared_of st) - claimed_of st)
  fits = (batch_of here mine).1

  -- a put that may join it
  module _ (p : Put) (can : Puttable n p.sector p.page s m st b) where
    free : length all + 8 ≤ positions z (cleared_of st)
    free = omega (arith, fits.room, can.room, here.count)

    filled : 0 < length all → unfilled (last_flags all) ≡ false
    filled = open_filled here.ended_entries here.puts here.ended

    low : p.sector < z.sectors
    low = subst (λ (y : Sizes). p.sector < y.sectors) here.sizes can.sector

    small : p.sector < 65536
    small = omega (arith, low, inv.sized.sectors_most, inv.sized.ring_most)

    -- its steps, by the volume's sizes and the length of its log
    steps : {t : Flash} {r : Result (Unit {0}) Fault} → Performs (putting (sizes_of st) (cleared_of st) (claimed_of st) p.sector p.page) s r t → Performs (putting z (cleared_of st) (length all) p.sector p.page) s r t
    steps {t} {r} h =
        subst (λ (k : ℕ). Performs (putting z (cleared_of st) k p.sector p.page) s r t) here.count
        (subst (λ (y : Sizes). Performs (putting y (cleared_of st) (claimed_of st) p.sector p.page) s r t) here.sizes h)

    module _ (t : Flash) where
      -- what they leave, whole and cut
      joins : Performs (putting z (cleared_of st) (length all) p.sector p.page) s (Ok tt) t → Sane t z (cleared_of st) (all ++ (filled_put p ∷ []))
      joins = put_sane s t z (cleared_of st) all p here.shaped here.even here.sane free filled low small can.whole can.bytes

      keeps : {f : Fault} → Performs (putting z (cleared_of st) (length all) p.sector p.page) s (Err f) t → Still t z all
      keeps = put_cut_still s t z (cleared_of st) all p here.shaped here.even here.sane free filled low small can.whole can.bytes

      same_list : all ++ (filled_put p ∷ []) ≡ here.ended_entries ++ filled_puts (here.puts ++ (p ∷ []))
      same_list = more_puts here.ended_entries here.puts p

      -- the invariant then
      put_inv : Performs (putting (sizes_of st) (cleared_of st) (claimed_of st) p.sector p.page) s (Ok tt) t → Inv z t (one_more m st b) (joined l p)
      put_inv h =
          let now : Stands z t record { log = record { layout = st.log.layout; claimed = claimed_of st + 1 }; batch = Some record { ticket = b.ticket; limit = b.limit; puts = b.puts + 1 } } (joined l p) = record {
            power = performs_on h here.power;
            sizes = here.sizes;
            shaped = here.shaped;
            even = here.even;
            ended_entries = here.ended_entries;
            puts = here.puts ++ (p ∷ []);
            ended = here.ended;
            sane = subst (Sane t z (cleared_of st)) same_list (joins (steps h));
            count = omega (arith, here.count, length_one all (filled_put p), ap length same_list);
            same = here.same;
            batched = (
              ap (λ (ps : List Put). Some (ps ++ (p ∷ []))) noted,
              record {
                count = omega (arith, fits.count, length-append here.puts (p ∷ []));
                most = omega (arith, can.room);
                room = omega (arith, fits.room, can.room);
              },
            );
          } in
          settled (sizes_of st) (cleared_of st) (claimed_of st) inv h (putting_of (sizes_of st) (cleared_of st) (claimed_of st) p.sector p.page)
          (carries_of now)
          now

      put_cut_inv : {f : Fault} → Performs (putting (sizes_of st) (cleared_of st) (claimed_of st) p.sector p.page) s (Err f) t → Inv z t (halted m) (over l)
      put_cut_inv h =
          settled (sizes_of st) (cleared_of st) (claimed_of st) inv h (putting_of (sizes_of st) (cleared_of st) (claimed_of st) p.sector p.page)
          (still_carries here (keeps (steps h)))
          refl

  -- without puts: k is the ledger afterwards, with no batch and the same sectors
  module _ (none : b.puts ≡ 0) where
    no_put : here.puts ≡ []
    no_put = no_puts here.puts (sym fits.count ∙ none)

    empty_inv : (k : Ledger) → k.batch ≡ None → ((x : ℕ) → l.sectors x ≡ k.sectors x) → Inv z s (idle m st.log) k
    empty_inv k none-listed same =
        let now : Stands z s record { log = st.log; batch = None } k = record {
          power = here.power;
          sizes = here.sizes;
          shaped = here.shaped;
          even = here.even;
          ended_entries = here.ended_entries;
          puts = here.puts;
          ended = here.ended;
          sane = here.sane;
          count = here.count;
          same = λ x. here.same x ∙ same x;
          batched = (none-listed, no_put);
        } in
        record { labelled = inv.labelled; sized = inv.sized; carries = carries_of now; kept = now }

    -- a close writes nothing
    unwritten : (x : ℕ) → l.sectors x ≡ (written l).sectors x
    unwritten x = ap (wrote x (l.sectors x)) (sym (noted ∙ no_put))

  -- with puts: those before the last, and the last
  module _ (some : 0 < b.puts) where
    split : (qs : List Put) × (q : Put) × (here.puts ≡ qs ++ (q ∷ []))
    split = last_of here.puts (omega (arith, fits.count, some))

    abbrev before : List Entry
    before = here.ended_entries ++ filled_puts split.0

    abbrev last : Put
    last = split.1

    -- the log, and how many slots are claimed and free
    list : all ≡ before ++ (filled_put last ∷ [])
    list =
        ap (λ (ps : List Put). here.ended_entries ++ filled_puts ps) split.2
        ∙ sym (more_puts here.ended_entries split.0 last)

    claimed_one : claimed_of st ≡ length before + 1
    claimed_one = here.count ∙ ap length list ∙ length_one before (filled_put last)

    sane_last : Sane s z (cleared_of st) (before ++ (filled_put last ∷ []))
    sane_last = subst (Sane s z (cleared_of st)) list here.sane

    eight : length before + 8 ≤ positions z (cleared_of st)
    eight = omega (arith, fits.room, fits.most, claimed_one)

    -- the steps of a plan, by the volume's sizes and the length of the log before the last put
    at_last : {t : Flash} {r : Result (Unit {0}) Fault} (plan : Sizes → ℕ → ℕ → List Step) → Performs (plan (sizes_of st) (cleared_of st) (claimed_of st - 1)) s r t → Performs (plan z (cleared_of st) (length before)) s r t
    at_last {t} {r} plan h =
        let place : claimed_of st - 1 ≡ length before = omega (arith, claimed_one) in
        subst (λ (k : ℕ). Performs (plan z (cleared_of st) k) s r t) place
        (subst (λ (y : Sizes). Performs (plan y (cleared_of st) (claimed_of st - 1)) s r t) here.sizes h)

    -- what the sectors hold when the last put is closed, and while it is not
    closed_holds : (x : ℕ) → holds x (before ++ (closed_put last ∷ [])) ≡ (written l).sectors x
    closed_holds x =
        holds_closed_last x here.ended_entries split.0 last here.ended
        ∙ ap (λ (o : Option (List ℕ)). wrote x o (split.0 ++ (last ∷ []))) (here.same x)
        ∙ ap (wrote x (l.sectors x)) (sym (noted ∙ split.2))

    open_holds : (x : ℕ) → holds x (before ++ (filled_put last ∷ [])) ≡ l.sectors x
    open_holds x = ap (holds x) (sym list) ∙ holds_open x here.ended_entries here.puts ∙ here.same x

    -- the invariant once the last put has become an entry that ends a group
    ended_inv : {t : Flash} {plan : List Step} (k : Ledger) (f : Entry) → k.batch ≡ None → ends f.flags ≡ true → Performs plan s (Ok tt) t → AllOfSlot (sizes_of st) (cleared_of st) (claimed_of st - 1) plan → Sane t z (cleared_of st) (before ++ (f ∷ [])) → ((x : ℕ) → holds x (before ++ (f ∷ [])) ≡ k.sectors x) → Inv z t (idle m st.log) k
    ended_inv {t} k f none-listed end h of sane same =
        let now : Stands z t record { log = st.log; batch = None } k = record {
          power = performs_on h here.power;
          sizes = here.sizes;
          shaped = here.shaped;
          even = here.even;
          ended_entries = before ++ (f ∷ []);
          puts = [];
          ended = ended_by before f end;
          sane = subst (Sane t z (cleared_of st)) (sym (append-nil (before ++ (f ∷ [])))) sane;
          count = claimed_one ∙ sym (length_one before f) ∙ ap length (sym (append-nil (before ++ (f ∷ []))));
          same = same;
          batched = (none-listed, refl);
        } in
        settled (sizes_of st) (cleared_of st) (claimed_of st - 1) inv h of (carries_of now) now

    -- and that once power has failed
    halted_inv : {t : Flash} {plan : List Step} {f : Fault} (k : Ledger) (es : List Entry) → k.batch ≡ None → Performs plan s (Err f) t → AllOfSlot (sizes_of st) (cleared_of st) (claimed_of st - 1) plan → Sane t z (cleared_of st) es → ((x : ℕ) → holds x es ≡ k.sectors x) → Inv z t (halted m) k
    halted_inv k es none-listed h of sane same =
        settled (sizes_of st) (cleared_of st) (claimed_of st - 1) inv h of
        record { cleared = cleared_of st; entries = es; shaped = here.shaped; sane = sane; holds = same }
        none-listed

    -- the step is of the last slot
    mark_last : (mask : ℕ) → AllOfSlot (sizes_of st) (cleared_of st) (claimed_of st - 1) (mark (sizes_of st) (cleared_of st) (claimed_of st - 1) mask ∷ [])
    mark_last mask = (mark_of (sizes_of st) (cleared_of st) (claimed_of st - 1) mask, tt)

    -- a close, whole and cut
    close_inv : (t : Flash) → Performs (closing (sizes_of st) (cleared_of st) (claimed_of st - 1)) s (Ok tt) t → Inv z t (idle m st.log) (written l)
    close_inv t h =
        ended_inv (written l) (closed_put last) refl refl h (mark_last 239)
        (close_sane s t z (cleared_of st) before last here.shaped here.even sane_last eight (at_last closing h))
        closed_holds

    close_cut_inv : (t : Flash) {f : Fault} → Performs (closing (sizes_of st) (cleared_of st) (claimed_of st - 1)) s (Err f) t → Inv z t (halted m) (over l) ⊎ Inv z t (halted m) (written l)
    close_cut_inv t h =
        ⊎_elim
        (λ old. inl (halted_inv (over l) (before ++ (filled_put last ∷ [])) refl h (mark_last 239) old open_holds))
        (λ new. inr (halted_inv (written l) (before ++ (closed_put last ∷ [])) refl h (mark_last 239) new closed_holds))
        (close_cut_sane s t z (cleared_of st) before last here.shaped here.even sane_last eight (at_last closing h))

    -- a drop, whole and cut
    drop_inv : (t : Flash) → Performs (dropping (sizes_of st) (cleared_of st) (claimed_of st - 1)) s (Ok tt) t → Inv z t (idle m st.log) (over l)
    drop_inv t h =
        let x = drop_sane s t z (cleared_of st) before (filled_put last) here.shaped here.even sane_last (inl refl) (at_last dropping h) in
        ended_inv (over l) x.0 refl x.2 h (mark_last 247) x.1 (λ y. x.3 y ∙ open_holds y)

    drop_cut_inv : (t : Flash) {f : Fault} → Performs (dropping (sizes_of st) (cleared_of st) (claimed_of st - 1)) s (Err f) t → Inv z t (halted m) (over l)
    drop_cut_inv t h =
        settled (sizes_of st) (cleared_of st) (claimed_of st - 1) inv h (mark_last 247)
        (still_carries here (subst (Still t z) (sym list)
        (drop_cut_still s t z (cleared_of st) before (filled_put last) here.shaped here.even sane_last (inl refl) (at_last dropping h))))
        refl

-- what a put comes to
pub next_put : {z : Sizes} {s t : Flash} {m w : Memory} {l : Ledger} {n : ℕ} {x : Sector} {page : Bor (List ℕ)} {r : Result (Unit {0}) Refusal} → Inv z s m l → Puts n x.0 page.now s m r t w → Next z s m l (call.Put n x page) (said r) t w
next_put {z} {s} {m = m} {l = l} {n = n} {x = x} {page = page} inv does = go does
  where
    p : Put
    p = record { sector = x.0; page = page.now }

    comes : {a : Answer} {t : Flash} {w : Memory} → Inv z t w (enter false l (call.Put n x page) a) → Next z s m l (call.Put n x page) a t w
    comes k = record { choice = false; inv = k; meets = tt; promised = tt }

    refused : (e : Refusal) {i : ℕ} → numbers e ≡ i ∷ [] → eqb i 13 ≡ false → Next z s m l (call.Put n x page) (Err e) s m
    refused e is other = comes (same_ledger (Inv z s m) (over l) l e is other inv)

    go : {r : Result (Unit {0}) Refusal} {t : Flash} {w : Memory} → Puts n x.0 page.now s m r t w → Next z s m l (call.Put n x page) (said r) t w
    go (calls.stopped {e} is none) = refused e is refl
    go (calls.other {e} is serves none) = refused e is refl
    go (calls.no_page {e} is serves mine ne) = refused e is refl
    go (calls.sector {e} is serves mine long out) = refused e is refl
    go (calls.full {e} is serves mine long inside most) = refused e is refl
    go {t = t} (calls.done can h) = comes (put_inv inv can.serves can.mine p can t h)
    go {t = t} (calls.cut {e} is can h) =
        comes (cut_ledger (Inv z t (halted m)) (over l) l e is (put_cut_inv inv can.serves can.mine p can t h))

-- what a close comes to
pub next_close : {z : Sizes} {s t : Flash} {m w : Memory} {l : Ledger} {n : ℕ} {r : Result (Unit {0}) Refusal} → Inv z s m l → Ends closing n s m r t w → Next z s m l (call.Close n) (said r) t w
next_close {z} {s} {m = m} {l = l} {n = n} inv does = go does
  where
    comes : {a : Answer} {t : Flash} {w : Memory} (all : Bool) → Inv z t w (enter all l (call.Close n) a) → Next z s m l (call.Close n) a t w
    comes all k = record { choice = all; inv = k; meets = tt; promised = tt }

    refused : (e : Refusal) {i : ℕ} → numbers e ≡ i ∷ [] → eqb i 13 ≡ false → Next z s m l (call.Close n) (Err e) s m
    refused e is other = comes false (same_ledger (Inv z s m) (over l) l e is other inv)

    go : {r : Result (Unit {0}) Refusal} {t : Flash} {w : Memory} → Ends closing n s m r t w → Next z s m l (call.Close n) (said r) t w
    go (calls.stopped {e} is none) = refused e is refl
    go (calls.other {e} is serves none) = refused e is refl
    go (calls.empty serves mine none) =
        comes false (empty_inv inv serves mine none (written l) refl (unwritten inv serves mine none))
    go {t = t} (calls.done serves mine some h) = comes false (close_inv inv serves mine some t h)
    go {t = t} (calls.cut {e} is serves mine some h) =
        ⊎_elim
        (λ old. comes false (cut_ledger (Inv z t (halted m)) (over l) l e is old))
        (λ new. comes true (cut_ledger (Inv z t (halted m)) (written l) l e is new))
        (close_cut_inv inv serves mine some t h)

-- what a drop comes to
pub next_drop : {z : Sizes} {s t : Flash} {m w : Memory} {l : Ledger} {n : ℕ} {r : Result (Unit {0}) Refusal} → Inv z s m l → Ends dropping n s m r t w → Next z s m l (call.Drop n) (said r) t w
next_drop {z} {s} {m = m} {l = l} {n = n} inv does = go does
  where
    comes : {a : Answer} {t : Flash} {w : Memory} → Inv z t w (enter false l (call.Drop n) a) → Next z s m l (call.Drop n) a t w
    comes k = record { choice = false; inv = k; meets = tt; promised = tt }

    refused : (e : Refusal) {i : ℕ} → numbers e ≡ i ∷ [] → eqb i 13 ≡ false → Next z s m l (call.Drop n) (Err e) s m
    refused e is other = comes (same_ledger (Inv z s m) (over l) l e is other inv)

    go : {r : Result (Unit {0}) Refusal} {t : Flash} {w : Memory} → Ends dropping n s m r t w → Next z s m l (call.Drop n) (said r) t w
    go (calls.stopped {e} is none) = refused e is refl
    go (calls.other {e} is serves none) = refused e is refl
    go (calls.empty serves mine none) = comes (empty_inv inv serves mine none (over l) refl (λ x. refl))
    go {t = t} (calls.done serves mine some h) = comes (drop_inv inv serves mine some t h)
    go {t = t} (calls.cut {e} is serves mine some h) =
        comes (cut_ledger (Inv z t (halted m)) (over l) l e is (drop_cut_inv inv serves mine some t h))
