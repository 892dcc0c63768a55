-- What is written is read again: a page that holds a written label is a good label.
use Rattle.std.proofs.Common.{◌≡◌, ℕ, ◌+◌, ◌-◌, ◌/◌, ◌%◌, ◌<◌, ◌≤◌, List, [], ◌∷◌, ◌++◌, length, get_or, take, drop, Some, None, Option, sym, refl, ap, ◌∙◌, subst, inl, inr, arith, length-drop, Bor}
use Rattle.std.proofs.lemmas.List.{get_or-append-add, get_or_append_left, get_or_past, get_or_default, get_or-take, get_or-drop, length-take-le, same_lists}
use Rattle.label.specs.declared.Sizes.{Sizes}
use Rattle.label.specs.declared.Label.{Label}
use Rattle.label.specs.declared.field.Field.TheVariants.{Format, Ring, Sectors, Tally, Name}
use Rattle.label.specs.declared.found.Found.{Found}
use Rattle.label.specs.Fields.{tag_at, len_at, body_at, place, Ends, Noted, Number, Bytes}
use Rattle.label.specs.Labels.{Sized, Blank, Good}
use Rattle.label.specs.Read.{Sound}
use Rattle.label.specs.Found.{Holds}
use Rattle.label.specs.Written.{number_field, name_field, end_field, label_bytes, Fresh, Named}
use Rattle.label.proofs.Steps.{Walked, walk, past}

-- what was found after so many of the fields
abbrev found : Option ℕ → Option ℕ → Option ℕ → Option ℕ → Option (Bor (List ℕ)) → Found
found f r s t n = record { format = f; ring = r; sectors = s; tally = t; name = n }

start : (page : List ℕ) → Walked page 0 0 (found None None None None None)
start page = record {
  reached = refl;
  inside = omega arith;
  before = λ k lt. absurd (omega arith);
  says = record {
    format = λ j lt t. omega arith;
    ring = λ j lt t. omega arith;
    sectors = λ j lt t. omega arith;
    tally = λ j lt t. omega arith;
    name = λ j lt t. omega arith;
  };
}

-- the five bytes of a number's field make it sound, and are the number
sound_number : (page : List ℕ) (at tag v : ℕ) → 1 ≤ tag → tag ≤ 4 → at + 5 ≤ length page → get_or page at 0 ≡ tag → get_or page (at + 1) 0 ≡ 2 → get_or page (at + 1 + 1) 0 ≡ 0 → get_or page (at + 3) 0 ≡ v % 256 → get_or page (at + 3 + 1) 0 ≡ v / 256 → Sound page at × (tag_at page at ≡ tag) × Number page at v
sound_number page at tag v lo hi room t l z a b =
    let two : len_at page at ≡ 2 = omega arith in
    ((omega arith, inr (inl (omega arith, omega arith, two))), t, omega arith)

-- the end of the fields
finish : (page : List ℕ) (n at blocks : ℕ) (f : Found) (label : Label) → Walked page n at f → at + 3 ≤ length page → get_or page at 0 ≡ 0 → get_or page (at + 1) 0 ≡ 0 → get_or page (at + 1 + 1) 0 ≡ 0 → Blank page (at + 3) → Holds f label.sizes → f.name ≡ label.name → Sized blocks label.sizes → Good page blocks label
finish page n at blocks f label w room t l h blank holds name sized =
    let zero : len_at page at ≡ 0 = omega arith in
    let sound : Sound page at = (omega arith, inl (t, zero)) in
    let s : Sound page (place page n) = subst (Sound page) w.reached sound in
    let tag : tag_at page (place page n) ≡ 0 = subst (λ a. tag_at page a ≡ 0) w.reached t in
    let ends : Ends page n = record { before = w.before; legal = record { extent = s.0; suits = s.1; once = λ j lt e. absurd ((w.before j lt).1 (e ∙ tag)) }; end = tag } in
    record {
      fields = n;
      ends = ends;
      blank = subst (Blank page) (past page n at ends w.reached) blank;
      states = record {
        format = subst (Noted page n 1 (Number page)) holds.0 w.says.format;
        ring = subst (Noted page n 2 (Number page)) holds.1 w.says.ring;
        sectors = subst (Noted page n 3 (Number page)) holds.2 w.says.sectors;
        tally = subst (Noted page n 4 (Number page)) holds.3 w.says.tally;
      };
      sized = sized;
      name = subst (Noted page n 5 (Bytes page)) name w.says.name;
    }

-- the four numbers
numbers : (page name : List ℕ) (x : Sizes) → Fresh page x name → Walked page 4 20 (found (Some 1) (Some x.ring) (Some x.sectors) (Some x.tally) None)
numbers page name x fresh =
    let b = fresh.bytes in
    let w = fresh.whole in
    let n1 = sound_number page 0 1 1 (omega arith) (omega arith) (omega arith) (b 0 (omega arith)) (b 1 (omega arith)) (b 2 (omega arith)) (b 3 (omega arith)) (b 4 (omega arith)) in
    let n2 = sound_number page 5 2 x.ring (omega arith) (omega arith) (omega arith) (b 5 (omega arith)) (b 6 (omega arith)) (b 7 (omega arith)) (b 8 (omega arith)) (b 9 (omega arith)) in
    let n3 = sound_number page 10 3 x.sectors (omega arith) (omega arith) (omega arith) (b 10 (omega arith)) (b 11 (omega arith)) (b 12 (omega arith)) (b 13 (omega arith)) (b 14 (omega arith)) in
    let n4 = sound_number page 15 4 x.tally (omega arith) (omega arith) (omega arith) (b 15 (omega arith)) (b 16 (omega arith)) (b 17 (omega arith)) (b 18 (omega arith)) (b 19 (omega arith)) in
    let w1 = walk page 0 0 (found None None None None None) (found (Some 1) None None None None) (Format 1) (start page) n1.0 (n1.1, n1.2) (λ e. let z : ◌≡◌ {A = ℕ} 0 1 = cc in omega arith) ((refl, refl), refl, refl, refl, refl) in
    let w2 = walk page 1 5 (found (Some 1) None None None None) (found (Some 1) (Some x.ring) None None None) (Ring x.ring) w1 n2.0 (n2.1, n2.2) (λ e. let z : ◌≡◌ {A = ℕ} 0 1 = cc in omega arith) ((refl, refl), refl, refl, refl, refl) in
    let w3 = walk page 2 10 (found (Some 1) (Some x.ring) None None None) (found (Some 1) (Some x.ring) (Some x.sectors) None None) (Sectors x.sectors) w2 n3.0 (n3.1, n3.2) (λ e. let z : ◌≡◌ {A = ℕ} 0 1 = cc in omega arith) ((refl, refl), refl, refl, refl, refl) in
    walk page 3 15 (found (Some 1) (Some x.ring) (Some x.sectors) None None) (found (Some 1) (Some x.ring) (Some x.sectors) (Some x.tally) None) (Tally x.tally) w3 n4.0 (n4.1, n4.2) (λ e. let z : ◌≡◌ {A = ℕ} 0 1 = cc in omega arith) ((refl, refl), refl, refl, refl, refl)

-- what follows the numbers
behind : (page name : List ℕ) (x : Sizes) (o : ℕ) → Fresh page x name → o < 492 → get_or page (20 + o) 0 ≡ get_or (name_field name ++ end_field) o 255
behind page name x o fresh lt =
    fresh.bytes (20 + o) (omega arith)
    ∙ get_or-append-add (number_field 1 1 ++ (number_field 2 x.ring ++ (number_field 3 x.sectors ++ number_field 4 x.tally))) (name_field name ++ end_field) o 255

-- what follows the tag and the length of a name
after_head : (page xs : List ℕ) (x : ℕ) (sizes : Sizes) (o : ℕ) → Fresh page sizes (x ∷ xs) → o < 489 → get_or page (23 + o) 0 ≡ get_or ((x ∷ xs) ++ end_field) o 255
after_head page xs x sizes o fresh lt =
    let i : 23 + o ≡ 20 + (3 + o) = omega arith in
    ap (λ k. get_or page k 0) i
    ∙ behind page (x ∷ xs) sizes (3 + o) fresh (omega arith)
    ∙ get_or-append-add (5 ∷ length (x ∷ xs) ∷ 0 ∷ []) ((x ∷ xs) ++ end_field) o 255

-- what follows a name
after_name : (page xs : List ℕ) (x : ℕ) (sizes : Sizes) (o : ℕ) → Fresh page sizes (x ∷ xs) → length (x ∷ xs) + o < 489 → get_or page (23 + (length (x ∷ xs) + o)) 0 ≡ get_or end_field o 255
after_name page xs x sizes o fresh lt = after_head page xs x sizes (length (x ∷ xs) + o) fresh lt ∙ get_or-append-add (x ∷ xs) end_field o 255

-- the bytes of the name's field are the name
body : (page xs : List ℕ) (x : ℕ) (sizes : Sizes) → Fresh page sizes (x ∷ xs) → length (x ∷ xs) ≤ 32 → len_at page 20 ≡ length (x ∷ xs) → body_at page 20 ≡ x ∷ xs
body page xs x sizes fresh short len =
    let name = x ∷ xs in
    let m = length name in
    let n : length (take (len_at page 20) (drop 23 page)) ≡ m = length-take-le (len_at page 20) (drop 23 page) (omega (arith, length-drop 23 page, fresh.whole)) ∙ len in
    same_lists (take (len_at page 20) (drop 23 page)) name n
    (λ k d h.
    get_or-take (len_at page 20) (drop 23 page) k d (omega arith)
    ∙ get_or-drop 23 page k d
    ∙ get_or_default page (23 + k) d 0 (omega (arith, fresh.whole))
    ∙ after_head page xs x sizes k fresh (omega arith)
    ∙ get_or_append_left name end_field 255 k (omega arith)
    ∙ get_or_default name k 255 d (omega arith))

reads : (page name : List ℕ) (blocks : ℕ) (x : Sizes) (o : Option (Bor (List ℕ))) → length name ≤ 32 → Sized blocks x → Fresh page x name → Named name o → Good page blocks (record { sizes = x; name = o })
reads page [] blocks x None short sized fresh named =
    let b = fresh.bytes in
    let w = fresh.whole in
    finish page 4 20 blocks (found (Some 1) (Some x.ring) (Some x.sectors) (Some x.tally) None) (record { sizes = x; name = None }) (numbers page [] x fresh)
    (omega arith) (b 20 (omega arith)) (b 21 (omega arith)) (b 22 (omega arith))
    (λ o lo hi. b o (omega arith) ∙ get_or_past (label_bytes x []) o 255 lo)
    (refl, refl, refl, refl) refl sized
reads page [] blocks x (Some s) short sized fresh named = absurd (omega (arith, named.0))
reads page (y ∷ ys) blocks x None short sized fresh named = absurd (let z : ◌≡◌ {A = ℕ} 0 1 = cc in omega arith)
reads page (y ∷ ys) blocks x (Some s) short sized fresh named =
    let b = fresh.bytes in
    let w = fresh.whole in
    let name = y ∷ ys in
    let m = length name in
    let old = found (Some 1) (Some x.ring) (Some x.sectors) (Some x.tally) None in
    let new = found (Some 1) (Some x.ring) (Some x.sectors) (Some x.tally) (Some s) in
    let tag : get_or page 20 0 ≡ 5 = b 20 (omega arith) in
    let low : get_or page 21 0 ≡ m = b 21 (omega arith) in
    let high : get_or page 22 0 ≡ 0 = b 22 (omega arith) in
    let len : len_at page 20 ≡ m = omega arith in
    let some : 1 ≤ m = omega (arith, named.0) in
    let sound : Sound page 20 = (omega arith, inr (inr (inl (tag, omega arith, omega arith)))) in
    let walked = walk page 4 20 old new (Name s) (numbers page name x fresh) sound (tag, named.1 ∙ sym (body page ys y x fresh short len)) (λ e. let z : ◌≡◌ {A = ℕ} 0 1 = cc in omega arith) ((refl, refl), refl, refl, refl, refl) in
    let there : Walked page 5 (23 + m) new = subst (λ l. Walked page 5 (23 + l) new) (ap length named.1) walked in
    let past-name : (j k : ℕ) → m + j < 489 → k ≡ 23 + (m + j) → get_or page k 0 ≡ get_or end_field j 255 = λ j k lt e. ap (λ i. get_or page i 0) e ∙ after_name page ys y x j fresh lt in
    finish page 5 (23 + m) blocks new (record { sizes = x; name = Some s }) there
    (omega arith)
    (past-name 0 (23 + m) (omega arith) (omega arith))
    (past-name 1 (23 + m + 1) (omega arith) (omega arith))
    (past-name 2 (23 + m + 1 + 1) (omega arith) (omega arith))
    (λ o lo hi. past-name (o - (23 + m)) o (omega arith) (omega arith) ∙ get_or_past end_field (o - (23 + m)) 255 (omega arith))
    (refl, refl, refl, refl) refl sized

-- a written label is good
pub reread : (page name : List ℕ) (blocks : ℕ) (label : Label) → length name ≤ 32 → Sized blocks label.sizes → Fresh page label.sizes name → Named name label.name → Good page blocks label
reread page name blocks label short sized fresh named = reads page name blocks label.sizes label.name short sized fresh named
