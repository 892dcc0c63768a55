-- The fields that were read, one field further.
use Rattle.std.proofs.Common.{◌≡◌, ℕ, ◌+◌, ◌<◌, ◌≤◌, List, length, take, drop, None, Ok, Err, Option, sym, refl, ap, ◌∙◌, subst, add-one, arith, length-drop, below_more}
use Rattle.std.proofs.lemmas.List.{length-take-le}
use Rattle.label.specs.declared.LabelFault.{LabelFault}
use Rattle.label.specs.declared.field.Field.{Field}
use Rattle.label.specs.declared.field.Field.TheVariants.{Format, Ring, Sectors, Tally, Name, Skipped, End}
use Rattle.label.specs.declared.found.Found.{Found}
use Rattle.label.specs.Fields.{place, after, tag_of, len_at, Legal, Before, Ends, Noted, Number, Bytes}
use Rattle.label.specs.Read.{Sound, FieldAt, end_of}
use Rattle.label.specs.Found.{Taken, Kept, Says}
use Rattle.label.proofs.Notes.{passed, unrepeated, repeated}

-- the first n fields end at a byte, are in order, are not the end, and say what was found
pub record Walked (page : List ℕ) (n at : ℕ) (found : Found) : Type 0 where
  pub reached : at ≡ place page n
  pub inside : at ≤ length page
  pub before : Before page n
  pub says : Says page n found

-- a note that a field with another tag left as it was
still : {V : Type 0} (page : List ℕ) (n mine tag : ℕ) (P : ℕ → V → Type 0) (old new : Option V) → tag_of page n ≡ mine → (mine ≡ tag → ⊥) → new ≡ old → Noted page n tag P old → Noted page (n + 1) tag P new
still page n mine tag P old new t ne e h = subst (Noted page (n + 1) tag P) (sym e) (passed page n tag P old (λ s. ne (sym t ∙ s)) h)

-- a note that the last field left
noted : {V U : Type 0} (page : List ℕ) (n tag at : ℕ) (v : V) (u : U) (P : ℕ → V → Type 0) (old new : Option V) → tag_of page n ≡ tag → P (place page n) v → Kept old v at (Ok u) new → Noted page (n + 1) tag P new
noted page n tag at v u P old new t p k = subst (Noted page (n + 1) tag P) (sym k.1) (n, omega arith, t, p)

-- what the fields say, one field further
says : (page : List ℕ) (n at : ℕ) (u : Unit {0}) (old new : Found) (f : Field) → FieldAt page (place page n) f → Says page n old → Taken old f at (Ok u) new → Says page (n + 1) new
says page n at u old new (Format v) f s t = record {
  format = noted page n 1 at v u (Number page) old.format new.format f.0 f.1 t.0;
  ring = still page n 1 2 (Number page) old.ring new.ring f.0 (λ e. omega arith) t.1 s.ring;
  sectors = still page n 1 3 (Number page) old.sectors new.sectors f.0 (λ e. omega arith) t.2 s.sectors;
  tally = still page n 1 4 (Number page) old.tally new.tally f.0 (λ e. omega arith) t.3 s.tally;
  name = still page n 1 5 (Bytes page) old.name new.name f.0 (λ e. omega arith) t.4 s.name;
}
says page n at u old new (Ring v) f s t = record {
  format = still page n 2 1 (Number page) old.format new.format f.0 (λ e. omega arith) t.1 s.format;
  ring = noted page n 2 at v u (Number page) old.ring new.ring f.0 f.1 t.0;
  sectors = still page n 2 3 (Number page) old.sectors new.sectors f.0 (λ e. omega arith) t.2 s.sectors;
  tally = still page n 2 4 (Number page) old.tally new.tally f.0 (λ e. omega arith) t.3 s.tally;
  name = still page n 2 5 (Bytes page) old.name new.name f.0 (λ e. omega arith) t.4 s.name;
}
says page n at u old new (Sectors v) f s t = record {
  format = still page n 3 1 (Number page) old.format new.format f.0 (λ e. omega arith) t.1 s.format;
  ring = still page n 3 2 (Number page) old.ring new.ring f.0 (λ e. omega arith) t.2 s.ring;
  sectors = noted page n 3 at v u (Number page) old.sectors new.sectors f.0 f.1 t.0;
  tally = still page n 3 4 (Number page) old.tally new.tally f.0 (λ e. omega arith) t.3 s.tally;
  name = still page n 3 5 (Bytes page) old.name new.name f.0 (λ e. omega arith) t.4 s.name;
}
says page n at u old new (Tally v) f s t = record {
  format = still page n 4 1 (Number page) old.format new.format f.0 (λ e. omega arith) t.1 s.format;
  ring = still page n 4 2 (Number page) old.ring new.ring f.0 (λ e. omega arith) t.2 s.ring;
  sectors = still page n 4 3 (Number page) old.sectors new.sectors f.0 (λ e. omega arith) t.3 s.sectors;
  tally = noted page n 4 at v u (Number page) old.tally new.tally f.0 f.1 t.0;
  name = still page n 4 5 (Bytes page) old.name new.name f.0 (λ e. omega arith) t.4 s.name;
}
says page n at u old new (Name b) f s t = record {
  format = still page n 5 1 (Number page) old.format new.format f.0 (λ e. omega arith) t.1 s.format;
  ring = still page n 5 2 (Number page) old.ring new.ring f.0 (λ e. omega arith) t.2 s.ring;
  sectors = still page n 5 3 (Number page) old.sectors new.sectors f.0 (λ e. omega arith) t.3 s.sectors;
  tally = still page n 5 4 (Number page) old.tally new.tally f.0 (λ e. omega arith) t.4 s.tally;
  name = noted page n 5 at b u (Bytes page) old.name new.name f.0 f.1 t.0;
}
says page n at u old new (Skipped b) f s t = record {
  format = still page n (tag_of page n) 1 (Number page) old.format new.format refl (λ e. omega (arith, f.0)) (ap (λ x. x.format) t) s.format;
  ring = still page n (tag_of page n) 2 (Number page) old.ring new.ring refl (λ e. omega (arith, f.0)) (ap (λ x. x.ring) t) s.ring;
  sectors = still page n (tag_of page n) 3 (Number page) old.sectors new.sectors refl (λ e. omega (arith, f.0)) (ap (λ x. x.sectors) t) s.sectors;
  tally = still page n (tag_of page n) 4 (Number page) old.tally new.tally refl (λ e. omega (arith, f.0)) (ap (λ x. x.tally) t) s.tally;
  name = still page n (tag_of page n) 5 (Bytes page) old.name new.name refl (λ e. omega (arith, f.0)) (ap (λ x. x.name) t) s.name;
}
says page n at u old new End f s t = record {
  format = still page n 0 1 (Number page) old.format new.format f (λ e. omega arith) (ap (λ x. x.format) t) s.format;
  ring = still page n 0 2 (Number page) old.ring new.ring f (λ e. omega arith) (ap (λ x. x.ring) t) s.ring;
  sectors = still page n 0 3 (Number page) old.sectors new.sectors f (λ e. omega arith) (ap (λ x. x.sectors) t) s.sectors;
  tally = still page n 0 4 (Number page) old.tally new.tally f (λ e. omega arith) (ap (λ x. x.tally) t) s.tally;
  name = still page n 0 5 (Bytes page) old.name new.name f (λ e. omega arith) (ap (λ x. x.name) t) s.name;
}

-- no earlier field has the tag of one that was taken, unless it is skipped
fresh : {V : Type 0} (page : List ℕ) (n tag : ℕ) (P : ℕ → V → Type 0) (o : Option V) → o ≡ None → Noted page n tag P o → tag_of page n ≡ tag → (j : ℕ) → j < n → tag_of page j ≡ tag_of page n → 128 ≤ tag_of page n
fresh page n tag P o e h = unrepeated page n tag P (subst (Noted page n tag P) e h)

once : (page : List ℕ) (n at : ℕ) (u : Unit {0}) (old new : Found) (f : Field) → Before page n → FieldAt page (place page n) f → Says page n old → Taken old f at (Ok u) new → (j : ℕ) → j < n → tag_of page j ≡ tag_of page n → 128 ≤ tag_of page n
once page n at u old new (Format v) b f s t = fresh page n 1 (Number page) old.format t.0.0 s.format f.0
once page n at u old new (Ring v) b f s t = fresh page n 2 (Number page) old.ring t.0.0 s.ring f.0
once page n at u old new (Sectors v) b f s t = fresh page n 3 (Number page) old.sectors t.0.0 s.sectors f.0
once page n at u old new (Tally v) b f s t = fresh page n 4 (Number page) old.tally t.0.0 s.tally f.0
once page n at u old new (Name bs) b f s t = fresh page n 5 (Bytes page) old.name t.0.0 s.name f.0
once page n at u old new (Skipped bs) b f s t = λ j lt e. f.0
once page n at u old new End b f s t = λ j lt e. absurd ((b j lt).1 (e ∙ f))

-- only the end has the tag 0
more : (page : List ℕ) (n : ℕ) (f : Field) → FieldAt page (place page n) f → (f ≡ End → ⊥) → tag_of page n ≡ 0 → ⊥
more page n (Format v) f e z = omega (arith, f.0, z)
more page n (Ring v) f e z = omega (arith, f.0, z)
more page n (Sectors v) f e z = omega (arith, f.0, z)
more page n (Tally v) f e z = omega (arith, f.0, z)
more page n (Name b) f e z = omega (arith, f.0, z)
more page n (Skipped b) f e z = omega (arith, f.0, z)
more page n End f e z = e refl

-- a field that is refused repeats another
pub again : (page : List ℕ) (n at : ℕ) (fault : LabelFault) (old new : Found) (f : Field) → FieldAt page (place page n) f → Says page n old → at ≡ place page n → Taken old f at (Err fault) new → (Legal page n → ⊥) × (fault.at ≡ place page n)
again page n at e old new (Format v) f s r t = (repeated page n 1 (Number page) old.format t.0.0 s.format f.0 (omega arith), t.0.1 ∙ r)
again page n at e old new (Ring v) f s r t = (repeated page n 2 (Number page) old.ring t.0.0 s.ring f.0 (omega arith), t.0.1 ∙ r)
again page n at e old new (Sectors v) f s r t = (repeated page n 3 (Number page) old.sectors t.0.0 s.sectors f.0 (omega arith), t.0.1 ∙ r)
again page n at e old new (Tally v) f s r t = (repeated page n 4 (Number page) old.tally t.0.0 s.tally f.0 (omega arith), t.0.1 ∙ r)
again page n at e old new (Name b) f s r t = (repeated page n 5 (Bytes page) old.name t.0.0 s.name f.0 (omega arith), t.0.1 ∙ r)
again page n at e old new (Skipped b) f s r t = absurd t
again page n at e old new End f s r t = absurd t

-- the bytes of a field in the page are as many as its length says
whole : (page : List ℕ) (at : ℕ) → Sound page at → length (take (len_at page at) (drop (at + 3) page)) ≡ len_at page at
whole page at s = length-take-le (len_at page at) (drop (at + 3) page) (omega (arith, s.0, length-drop (at + 3) page))

-- the byte after a field is where the next begins
ended : (page : List ℕ) (at : ℕ) (f : Field) → Sound page at → FieldAt page at f → end_of at f ≡ after page at
ended page at (Format v) s f = omega (arith, s.1, f.0)
ended page at (Ring v) s f = omega (arith, s.1, f.0)
ended page at (Sectors v) s f = omega (arith, s.1, f.0)
ended page at (Tally v) s f = omega (arith, s.1, f.0)
ended page at (Name b) s f = omega (arith, ap length f.1 ∙ whole page at s)
ended page at (Skipped b) s f = omega (arith, ap length f.1 ∙ whole page at s)
ended page at End s f = omega (arith, s.1, f)

-- the field at the byte that was reached, as the next of the fields
pub here : (page : List ℕ) (n at : ℕ) (found : Found) (f : Field) → Walked page n at found → FieldAt page at f → FieldAt page (place page n) f
here page n at found f w is = subst (λ a. FieldAt page a f) w.reached is

-- a field that is in order and not the end is one more
pub walk : (page : List ℕ) (n at : ℕ) (old new : Found) (f : Field) → Walked page n at old → Sound page at → FieldAt page at f → (f ≡ End → ⊥) → Taken old f at (Ok tt) new → Walked page (n + 1) (end_of at f) new
walk page n at old new f w sound is other taken =
    let s : Sound page (place page n) = subst (Sound page) w.reached sound in
    let i : FieldAt page (place page n) f = here page n at old f w is in
    let e : end_of at f ≡ after page (place page n) = ap (λ a. end_of a f) w.reached ∙ ended page (place page n) f s i in
    record {
      reached = e ∙ ap (place page) (sym (add-one n));
      inside = omega (arith, e, s.0);
      before = below_more _ _ w.before (record { extent = s.0; suits = s.1; once = once page n at tt old new f w.before i w.says taken }, more page n f i other);
      says = says page n at tt old new f i w.says taken;
    }

-- the end field has no bytes of its own
pub past : (page : List ℕ) (n at : ℕ) → Ends page n → at ≡ place page n → at + 3 ≡ after page (place page n)
past page n at e is = omega (arith, e.legal.suits, e.end)
