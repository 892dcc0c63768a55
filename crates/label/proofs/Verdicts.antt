-- A page has one verdict: a good label is not at fault, and no other label is good on the same page.
use Rattle.std.proofs.Common.{◌≡◌, ℕ, ◌<◌, ◌≤◌, List, [], ◌∷◌, length, get_or, take, Some, None, Ok, Err, Option, Result, sym, refl, ap, ◌∙◌, subst, ⊎_elim, arith, Bor}
use Rattle.std.proofs.lemmas.List.{get_or_past, get_or_default, get_or-take}
use Rattle.std.proofs.lemmas.Bool.{cases_lt}
use Rattle.label.specs.declared.Sizes.{Sizes}
use Rattle.label.specs.declared.Label.{Label}
use Rattle.label.specs.declared.LabelFault.{LabelFault}
use Rattle.label.specs.Fields.{place, after, body_at, Legal, Before, Ends, Noted, Bytes}
use Rattle.label.specs.Labels.{Sized, States, Blank, Good, Faulty, no_blocks, field, stray, sizes, Labelled}
use Rattle.label.specs.Written.{label_bytes, Fresh, Named, Accepted}
use Rattle.label.proofs.Notes.{unique, only}
use Rattle.label.proofs.Reread.{reread}

-- a page has one end
same_end : (page : List ℕ) (n m : ℕ) → Ends page n → Ends page m → n ≡ m
same_end page n m a b =
    ⊎_elim
    (λ lt. absurd ((b.before n lt).1 a.end))
    (λ ge. ⊎_elim (λ lt. absurd ((a.before m lt).1 b.end)) (λ le. omega arith) (cases_lt m n))
    (cases_lt n m)

-- up to its end every field is in order
legal : (page : List ℕ) (n m : ℕ) → Ends page m → n ≤ m → Legal page n
legal page n m e le =
    ⊎_elim
    (λ lt. (e.before n lt).0)
    (λ ge. let same : m ≡ n = omega arith in subst (Legal page) same e.legal)
    (cases_lt n m)

-- a good label is not at fault
pub good_not_faulty : (page : List ℕ) (blocks at : ℕ) (l : Label) → Good page blocks l → Faulty page blocks at → ⊥
good_not_faulty page blocks at l g (no_blocks z e) = omega (arith, g.sized.whole)
good_not_faulty page blocks at l g (field n some before illegal e) =
    ⊎_elim
    (λ lt. (before g.fields lt).1 g.ends.end)
    (λ le. illegal (legal page n g.fields g.ends le))
    (cases_lt g.fields n)
good_not_faulty page blocks at l g (stray n some ends s) =
    let same = same_end page g.fields n g.ends ends in
    s.marked (subst (λ k. Blank page (after page (place page k))) same g.blank at s.behind s.inside)
good_not_faulty page blocks at l g (sizes n some ends blank none e) =
    let same = same_end page g.fields n g.ends ends in
    none l.sizes (subst (λ k. States page k l.sizes) same g.states) g.sized

-- sizes with the same three numbers
alike : (a b : Sizes) → a.ring ≡ b.ring → a.sectors ≡ b.sectors → a.tally ≡ b.tally → a ≡ b
alike a b r s t =
    let of : ℕ → ℕ → ℕ → Sizes = λ i j k. record { ring = i; sectors = j; tally = k } in
    ap (λ i. of i a.sectors a.tally) r ∙ ap (λ j. of b.ring j a.tally) s ∙ ap (of b.ring b.sectors) t

-- two good labels of one page have the same sizes
pub good_sizes : (page : List ℕ) (blocks : ℕ) (l m : Label) → Good page blocks l → Good page blocks m → l.sizes ≡ m.sizes
good_sizes page blocks l m g h =
    let same = same_end page h.fields g.fields h.ends g.ends in
    let st = subst (λ k. States page k m.sizes) same h.states in
    let b = g.ends.before in
    let r = only page g.fields 2 m.sizes.ring (Some l.sizes.ring) b (omega arith) g.states.ring st.ring in
    let s = only page g.fields 3 m.sizes.sectors (Some l.sizes.sectors) b (omega arith) g.states.sectors st.sectors in
    let t = only page g.fields 4 m.sizes.tally (Some l.sizes.tally) b (omega arith) g.states.tally st.tally in
    alike l.sizes m.sizes (cc r) (cc s) (cc t)

-- the name of one of them is that of the other
same_name : (page : List ℕ) (n : ℕ) (name : List ℕ) (o p : Option (Bor (List ℕ))) → Before page n → Noted page n 5 (Bytes page) o → Noted page n 5 (Bytes page) p → Named name p → Named name o
same_name page n name None None b h k named = named
same_name page n name None (Some t) b h k named = absurd (h k.0 k.1 k.2)
same_name page n name (Some s) None b h k named = absurd (k h.0 h.1 h.2)
same_name page n name (Some s) (Some t) b h k named =
    let e = unique page n 5 h.0 k.0 b (omega arith) h.1 k.1 h.2 k.2 in
    (named.0, h.3 ∙ ap (λ j. body_at page (place page j)) e ∙ sym k.3 ∙ named.1)

pub good_names : (page : List ℕ) (blocks : ℕ) (name : List ℕ) (l m : Label) → Good page blocks l → Good page blocks m → Named name m.name → Named name l.name
good_names page blocks name l m g h named =
    let same = same_end page h.fields g.fields h.ends g.ends in
    same_name page g.fields name l.name m.name g.ends.before g.name (subst (λ k. Noted page k 5 (Bytes page) m.name) same h.name) named

-- a name as a part of some page
part : List ℕ → Option (Bor (List ℕ))
part [] = None
part (x ∷ xs) = Some (record { ref_ptr = (0, 0); now = x ∷ xs })

named_part : (name : List ℕ) → Named name (part name)
unfolding part
named_part [] = refl
named_part (x ∷ xs) = (omega arith, refl)

-- what the writer wrote is read again, with its sizes and its name
pub accepted : (page name : List ℕ) (blocks : ℕ) (x : Sizes) (r : Result Label LabelFault) → length name ≤ 32 → Sized blocks x → Fresh page x name → Labelled page blocks r → Accepted x name r
accepted page name blocks x (Ok l) short sized fresh good =
    let m : Label = record { sizes = x; name = part name } in
    let g : Good page blocks m = reread page name blocks m short sized fresh (named_part name) in
    (good_sizes page blocks l m good g, good_names page blocks name l m good g (named_part name))
accepted page name blocks x (Err e) short sized fresh faulty =
    let m : Label = record { sizes = x; name = part name } in
    good_not_faulty page blocks e.at m (reread page name blocks m short sized fresh (named_part name)) faulty

-- a page that begins with a written label, and is erased behind it
pub fresh_page : (page name : List ℕ) (x : Sizes) → length page ≡ 512 → take (length (label_bytes x name)) page ≡ label_bytes x name → ((o : ℕ) → length (label_bytes x name) ≤ o → o < 512 → get_or page o 0 ≡ 255) → Fresh page x name
fresh_page page name x whole front rest =
    let label = label_bytes x name in
    let n = length label in
    record {
      whole = whole;
      bytes =
          λ o lt. ⊎_elim
          (λ below. sym (get_or-take n page o 0 below) ∙ ap (λ l. get_or l o 0) front ∙ get_or_default label o 0 255 below)
          (λ above. rest o above lt ∙ sym (get_or_past label o 255 above))
          (cases_lt o n);
    }
