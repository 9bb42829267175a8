-- The numbers and the texts of a status.
use Rattle.std.specs.Prelude.{ℕ, List, [], ◌++◌, codes, decimal}
use Rattle.sg_folder.specs.Names.{name_of}
use Rattle.sg_commands.specs.declared.status.Status.{Status}
use Rattle.sg_commands.specs.declared.status.Status.TheVariants.{Done, NotAStore, Usage, Memory, Disk, Read, Write, TooLong, UnknownOperation, Damaged, Exists, BadGeometry, LogEnd}

-- the exit status of the process
abbrev pub number_of_status : Status → ℕ
number_of_status Done = 0
number_of_status NotAStore = 1
number_of_status Usage = 2
number_of_status Memory = 3
number_of_status Disk = 4
number_of_status Read = 5
number_of_status Write = 6
number_of_status TooLong = 7
number_of_status (UnknownOperation code) = 8
number_of_status (Damaged area at) = 9
number_of_status Exists = 10
number_of_status BadGeometry = 11
number_of_status LogEnd = 12

-- what is printed behind the program's name, and nothing where all was done
abbrev pub text_of_status : Status → List ℕ
text_of_status Done = []
text_of_status NotAStore = codes "not a store"
text_of_status Usage = codes "usage"
text_of_status Memory = codes "out of memory"
text_of_status Disk = codes "disk fault"
text_of_status Read = codes "read fault"
text_of_status Write = codes "write fault"
text_of_status TooLong = codes "script too long"
text_of_status (UnknownOperation code) = codes "unknown operation " ++ decimal code
text_of_status (Damaged area at) = codes "damaged " ++ name_of area ++ codes " " ++ decimal at
text_of_status Exists = codes "store exists"
text_of_status BadGeometry = codes "bad geometry"
text_of_status LogEnd = codes "log end"
