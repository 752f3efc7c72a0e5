pub mod SvgSpace
pub mod SvgHref
pub mod CssCascade
pub mod SvgProperties
pub mod Theorems
