-- The code's resources and touches.
use Rattle.sg_serial.specs.Locks.{Touch}
use Rattle.sg_model.specs.declared.touch.Resource as code
use Rattle.sg_model.specs.declared.touch.Resource.TheVariants as resources
use Rattle.sg_model.specs.declared.touch.Touch as code_touch
use Rattle.sg_model.specs.Touches.{Resource}
use Rattle.sg_model.specs.Touches.Part.{Kind, Length, Item, Key, Body}
use Rattle.sg_model.specs.Touches.Region.{Just, EachKey, Everything}
use Rattle.sg_model.specs.Touches.Resource.{Of, Names}

abbrev pub shown_resource : code.Resource → Resource
shown_resource (resources.Name n) = Of n (Just Kind)
shown_resource (resources.Len n) = Of n (Just Length)
shown_resource (resources.Item n i) = Of n (Just (Item i))
shown_resource (resources.Key n k) = Of n (Just (Key k))
shown_resource (resources.Body n) = Of n (Just Body)
shown_resource (resources.Keys n) = Of n EachKey
shown_resource resources.Names = Names
shown_resource (resources.AllOf n) = Of n Everything

abbrev pub shown_touch : code_touch.Touch → Touch Resource
shown_touch a = record { what = shown_resource a.what; write = a.write }
