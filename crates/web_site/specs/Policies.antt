-- Which scripts a page may run, and who may frame it (Content Security Policy).
use Rattle.std.specs.Prelude.{ℕ, List, ◌++◌, codes}
use Rattle.std.specs.List.{flat_map}
use Rattle.base64.specs.Engines.{standard}
use Rattle.base64.specs.GeneralPurpose.{encode_of}
use Rattle.sha2.specs.Sha256.{sha256}

-- How a script that stands in a page is named.
abbrev pub hash_of : List ℕ → List ℕ
hash_of script = encode_of standard (sha256 script)

abbrev pub source : List ℕ → List ℕ
source hash = codes " 'sha256-" ++ hash ++ codes "'"

-- No page of another site may frame a page, and scripts are those of the port's own files.
abbrev pub own_files : List ℕ
own_files =
    codes "frame-ancestors 'none'; default-src 'self'; base-uri 'none'; object-src 'none'; form-action 'none'; connect-src 'self' ws: wss:; img-src 'self' data: blob:; style-src 'self' 'unsafe-inline'; script-src 'self'"

-- Scripts of these hashes may run, too.
abbrev pub policy_of : List (List ℕ) → List ℕ
policy_of hashes = own_files ++ flat_map source hashes
