-- What the code's operations say.
use Rattle.std.specs.Prelude.{ℕ, List}
use Rattle.sg_model.specs.declared.op.Op as code_op
use Rattle.sg_model.specs.declared.op.Op.TheVariants as ops
use Rattle.sg_model.specs.Verb.{Verb, Op}
use Rattle.sg_model.specs.Verb.Op.{On}
use Rattle.sg_model.specs.Verb.Verb.{MakeArray, MakeTable, MakeBlob, Discard, Push, Pop, Set, Get, Len, Apply, Put, Del, Find, Write, Read, Size, Paint}

-- the verb
abbrev pub verb_of : code_op.Op → Verb
verb_of (ops.MakeArray name size) = MakeArray size
verb_of (ops.MakeTable name) = MakeTable
verb_of (ops.MakeBlob name) = MakeBlob
verb_of (ops.Discard name) = Discard
verb_of (ops.Push name value) = Push value.now
verb_of (ops.Pop name) = Pop
verb_of (ops.Set name index value) = Set index value.now
verb_of (ops.Get name index) = Get index
verb_of (ops.Len name) = Len
verb_of (ops.Apply name index code arg) = Apply index code arg.now
verb_of (ops.Put name key value) = Put key.now value.now
verb_of (ops.Del name key) = Del key.now
verb_of (ops.Find name key) = Find key.now
verb_of (ops.Write name at bytes) = Write at bytes.now
verb_of (ops.Read name at count) = Read at count
verb_of (ops.Size name length) = Size length
verb_of (ops.Paint name at count code arg) = Paint at count code arg.now

-- the name of the object that it is done to
abbrev pub name_of : code_op.Op → List ℕ
name_of (ops.MakeArray name size) = name
name_of (ops.MakeTable name) = name
name_of (ops.MakeBlob name) = name
name_of (ops.Discard name) = name
name_of (ops.Push name value) = name
name_of (ops.Pop name) = name
name_of (ops.Set name index value) = name
name_of (ops.Get name index) = name
name_of (ops.Len name) = name
name_of (ops.Apply name index code arg) = name
name_of (ops.Put name key value) = name
name_of (ops.Del name key) = name
name_of (ops.Find name key) = name
name_of (ops.Write name at bytes) = name
name_of (ops.Read name at count) = name
name_of (ops.Size name length) = name
name_of (ops.Paint name at count code arg) = name

abbrev pub said_op : code_op.Op → Op
said_op op = On (name_of op) (verb_of op)
