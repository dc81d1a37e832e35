use Rattle.std.proofs.Common.{codes, string_bytes, lit<}
use Rattle.std.proofs.lemmas.Str.{encode_ascii}
use Rattle.xq_atoms.specs.Print.{quoted}
use Rattle.xq_atoms.proofs.PrintLemmas.{append-three}
use Rattle.xq_atoms.proofs.prints.append_atom.Goals as goal

pub returns-in_ok-push-in-Untyped-clause-ok : goal.returns-in_ok-push-in-Untyped-clause-ok
returns-in_ok-push-in-Untyped-clause-ok c =
    rw (c.in_ok-push-in-Untyped.ensures.bytes, encode_ascii 41 (lit< tt), c.in_ok-append_quoted-in-Untyped.ensures.ok, c.in_ok-push_str-in-Untyped.ensures.bytes, c.as_str-in-Untyped.ensures.value, c.in-Untyped.is)
    (append-three (string_bytes c.args.out.now) (codes "xs:untypedAtomic(") (quoted (string_bytes c.in-Untyped.text)) (codes ")"))
