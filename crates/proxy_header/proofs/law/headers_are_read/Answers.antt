use Rattle.proxy_header.proofs.Sent.{all_headers_are_read}
use Rattle.proxy_header.proofs.law.headers_are_read.Goals as goal

pub returns : goal.returns
returns c = all_headers_are_read
