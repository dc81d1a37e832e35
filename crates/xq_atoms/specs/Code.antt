-- The texts of codes and wants, as replies spell them.
use Rattle.std.specs.Prelude.{ℕ, List, codes}
use Rattle.xq_atoms.specs.declared.refusals.Code.{Code}
use Rattle.xq_atoms.specs.declared.refusals.Code.TheVariants.{XPST0003, XPST0008, XPST0017, XPDY0002, XPDY0050, XPTY0004, XPTY0018, XPTY0019, XPTY0020, XQST0089, XQST0090, XQST0094, XQTY0024, XQDY0025, XQDY0026, XQDY0041, XQDY0044, XQDY0064, XQDY0072, XQDY0074, FOAR0001, FOAR0002, FOCA0001, FOCA0003, FOCA0006, FODC0002, FODC0005, FORG0001, FORG0003, FORG0004, FORG0005, FORG0006, ProfUtf8, ProfDepth, ProfDigits, ProfDouble, ProfPrefix, ProfType, ProfRange, ProfLevel, ProfNodes, ProfReply, ProfFrame, ProfLong, ProfAddress, ProfAbsent, ProfNotdoc}
use Rattle.xq_atoms.specs.declared.refusals.Want.{Want}
use Rattle.xq_atoms.specs.declared.refusals.Want.TheVariants.{Memory, Store}

-- a code: a standard's by its name there, one of the profile after `prof:`
abbrev pub code_text : Code → List ℕ
code_text XPST0003 = codes "XPST0003"
code_text XPST0008 = codes "XPST0008"
code_text XPST0017 = codes "XPST0017"
code_text XPDY0002 = codes "XPDY0002"
code_text XPDY0050 = codes "XPDY0050"
code_text XPTY0004 = codes "XPTY0004"
code_text XPTY0018 = codes "XPTY0018"
code_text XPTY0019 = codes "XPTY0019"
code_text XPTY0020 = codes "XPTY0020"
code_text XQST0089 = codes "XQST0089"
code_text XQST0090 = codes "XQST0090"
code_text XQST0094 = codes "XQST0094"
code_text XQTY0024 = codes "XQTY0024"
code_text XQDY0025 = codes "XQDY0025"
code_text XQDY0026 = codes "XQDY0026"
code_text XQDY0041 = codes "XQDY0041"
code_text XQDY0044 = codes "XQDY0044"
code_text XQDY0064 = codes "XQDY0064"
code_text XQDY0072 = codes "XQDY0072"
code_text XQDY0074 = codes "XQDY0074"
code_text FOAR0001 = codes "FOAR0001"
code_text FOAR0002 = codes "FOAR0002"
code_text FOCA0001 = codes "FOCA0001"
code_text FOCA0003 = codes "FOCA0003"
code_text FOCA0006 = codes "FOCA0006"
code_text FODC0002 = codes "FODC0002"
code_text FODC0005 = codes "FODC0005"
code_text FORG0001 = codes "FORG0001"
code_text FORG0003 = codes "FORG0003"
code_text FORG0004 = codes "FORG0004"
code_text FORG0005 = codes "FORG0005"
code_text FORG0006 = codes "FORG0006"
code_text ProfUtf8 = codes "prof:UTF8"
code_text ProfDepth = codes "prof:DEPTH"
code_text ProfDigits = codes "prof:DIGITS"
code_text ProfDouble = codes "prof:DOUBLE"
code_text ProfPrefix = codes "prof:PREFIX"
code_text ProfType = codes "prof:TYPE"
code_text ProfRange = codes "prof:RANGE"
code_text ProfLevel = codes "prof:LEVEL"
code_text ProfNodes = codes "prof:NODES"
code_text ProfReply = codes "prof:REPLY"
code_text ProfFrame = codes "prof:FRAME"
code_text ProfLong = codes "prof:LONG"
code_text ProfAddress = codes "prof:ADDRESS"
code_text ProfAbsent = codes "prof:ABSENT"
code_text ProfNotdoc = codes "prof:NOTDOC"

-- what is wanting
abbrev pub want_text : Want → List ℕ
want_text Memory = codes "memory"
want_text Store = codes "store"
