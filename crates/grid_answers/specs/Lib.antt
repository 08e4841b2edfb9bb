pub mod OfCell
pub mod BoxLines
pub mod RunLines
pub mod Distances
pub mod Framed
pub mod Printing
pub mod Certificates
pub mod Encoded
