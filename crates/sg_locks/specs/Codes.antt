-- Holds have a code, so that a list of them can be a model's value.
use Rattle.std.specs.Prelude.{◌≡◌, ℕ, Bool, List, refl, ◌⊎◌}
use Rattle.std.proofs.Common.{inl, inr}
use Rattle.std.specs.Coded.{Coded, code_by, coded×, coded_ℕ, coded_bool, coded_list, coded⊎}
use Rattle.sg_serial.specs.Locks.{Hold}
use Rattle.sg_model.specs.Touches.{Part, Region, Resource}
use Rattle.sg_model.specs.Touches.Part.{Kind, Length, Item, Key, Body, Buried}
use Rattle.sg_model.specs.Touches.Region.{Just, EachKey, Everything}
use Rattle.sg_model.specs.Touches.Resource.{Of, Names}

abbrev pub Parts : Type 0
Parts = ℕ ⊎ (List ℕ ⊎ (ℕ ⊎ (ℕ ⊎ (ℕ ⊎ ℕ))))

abbrev pub parts_of : Part → Parts
parts_of (Item index) = inl index
parts_of (Key key) = inr (inl key)
parts_of (Buried root) = inr (inr (inl root))
parts_of Kind = inr (inr (inr (inl 0)))
parts_of Length = inr (inr (inr (inr (inl 0))))
parts_of Body = inr (inr (inr (inr (inr 0))))

abbrev pub part_of : Parts → Part
part_of (inl index) = Item index
part_of (inr (inl key)) = Key key
part_of (inr (inr (inl root))) = Buried root
part_of (inr (inr (inr (inl n)))) = Kind
part_of (inr (inr (inr (inr (inl n))))) = Length
part_of (inr (inr (inr (inr (inr n))))) = Body

pub part_back : (p : Part) → part_of (parts_of p) ≡ p
part_back (Item index) = refl
part_back (Key key) = refl
part_back (Buried root) = refl
part_back Kind = refl
part_back Length = refl
part_back Body = refl

abbrev pub part_code : Coded Part
part_code = code_by Parts (coded⊎ coded_ℕ (coded⊎ (coded_list coded_ℕ) (coded⊎ coded_ℕ (coded⊎ coded_ℕ (coded⊎ coded_ℕ coded_ℕ))))) parts_of part_of part_back

abbrev pub Regions : Type 0
Regions = Part ⊎ (ℕ ⊎ ℕ)

abbrev pub regions_of : Region → Regions
regions_of (Just part) = inl part
regions_of EachKey = inr (inl 0)
regions_of Everything = inr (inr 0)

abbrev pub region_of : Regions → Region
region_of (inl part) = Just part
region_of (inr (inl n)) = EachKey
region_of (inr (inr n)) = Everything

pub region_back : (r : Region) → region_of (regions_of r) ≡ r
region_back (Just part) = refl
region_back EachKey = refl
region_back Everything = refl

abbrev pub region_code : Coded Region
region_code = code_by Regions (coded⊎ part_code (coded⊎ coded_ℕ coded_ℕ)) regions_of region_of region_back

abbrev pub Resources : Type 0
Resources = (List ℕ × Region) ⊎ ℕ

abbrev pub resources_of : Resource → Resources
resources_of (Of name region) = inl (name, region)
resources_of Names = inr 0

abbrev pub resource_of : Resources → Resource
resource_of (inl p) = Of p.0 p.1
resource_of (inr n) = Names

pub resource_back : (r : Resource) → resource_of (resources_of r) ≡ r
resource_back (Of name region) = refl
resource_back Names = refl

abbrev pub resource_code : Coded Resource
resource_code = code_by Resources (coded⊎ (coded× (coded_list coded_ℕ) region_code) coded_ℕ) resources_of resource_of resource_back

abbrev pub hold_code : Coded (Hold Resource)
hold_code = code_by (ℕ × (Resource × Bool)) (coded× coded_ℕ (coded× resource_code coded_bool)) (λ h. (h.transaction, (h.touch.what, h.touch.write))) (λ p. record { transaction = p.0; touch = record { what = p.1.0; write = p.1.1 } }) (λ h. refl)
