-- What a walk says of what pages read as.
use Rattle.std.proofs.Common.{◌≡◌, ◌-◌, Option, Some, None, sym, ap, ◌∙◌, refl, arith}
use Rattle.std.specs.Prelude.{option_map}
use Rattle.sg_alloc.specs.Flags.{free_of}
use Rattle.sg_alloc.specs.declared.maps.Maps.{Maps}
use Rattle.sg_action.specs.States.{State}
use Rattle.sg_contents.specs.Standing.{Contents}
use Rattle.sg_contents.specs.Meaning.{reading, page_total}
use Rattle.sg_reading.specs.Reading.{Reading}
use Rattle.sg_reader.specs.Alike.{ReadsAs}
use Rattle.sg_ground.specs.Theorem.{Basis, ground_of}
use Rattle.sg_walked.specs.Walked.{IsWalked}

pub walks_read : (b : Basis) (x : State) (maps : Maps) (w : IsWalked b.pages b.bands x maps) → (ground_of b).reading x ≡ Some (reading w.contents)
walks_read b x maps w =
    let f = b.reader.finds x w.contents w.reads in
    ap (λ (o : Option Contents). option_map reading o) f.1 ∙ ap (λ (o : Reading). Some o) f.2

reading_pages : (s : Contents) → (reading s).pages ≡ page_total s
unfolding reading
reading_pages s = refl

some_is : (a b : Reading) → ◌≡◌ {A = Option Reading} (Some a) (Some b) → a ≡ b
some_is a b e = cc

pub walks_free : (b : Basis) (x : State) (maps : Maps) → IsWalked b.pages b.bands x maps → (o : Reading) → (ground_of b).reading x ≡ Some o → free_of maps.pages ≡ (ground_of b).free o
walks_free b x maps w o e =
    let same : o ≡ reading w.contents = some_is o (reading w.contents) (sym e ∙ walks_read b x maps w) in
    let pages : o.pages ≡ page_total w.contents = ap (λ (r : Reading). r.pages) same ∙ reading_pages w.contents in
    let all = w.free in
    let free : free_of maps.pages ≡ b.pages - o.pages = omega (arith, pages, all) in
    free

some_of : (o : Option Contents) (r : Reading) → option_map reading o ≡ Some r → (s : Contents) × (o ≡ Some s)
some_of (Some s) r e = (s, refl)
some_of None r e = absurd cc

pub none_read : (b : Basis) (x : State) → ((s : Contents) → ReadsAs b.pages b.bands x s → ⊥) → (o : Reading) → (ground_of b).reading x ≡ Some o → ⊥
none_read b x none o e = let s = some_of (b.reader.contents x) o e in none s.0 (b.reader.sound x s.0 s.1)
