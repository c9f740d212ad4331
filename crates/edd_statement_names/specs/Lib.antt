pub mod ResolvedParts
